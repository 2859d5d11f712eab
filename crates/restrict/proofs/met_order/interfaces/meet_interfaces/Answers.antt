use Rattle.std.proofs.Common.{ℕ, [], ◌++◌, List, sym, ap, ◌∙◌}
use Rattle.std.specs.Prelude.{slice_get}
use Rattle.std.specs.List.{flat_map}
use Rattle.std.specs.Option.{option_map_or}
use Rattle.std.proofs.lemmas.List.{append-nil}
use Rattle.il_base.specs.declared.world_model.record.AsmRec.{AsmRec}
use Rattle.mark_parts.specs.mark_tables.Assemblies.{all_of}
use Rattle.rules.specs.merge_rules.Order.{Met}
use Rattle.merge_plan.specs.Kept.{kept_by}
use Rattle.token_keys.specs.Keys.{place_of, rec_of}
use Rattle.restrict.specs.met_order.Owned.{met_kept_interface}
use Rattle.restrict.proofs.lemmas.met_order.Owning.{no_interfaces, interfaces_grouped}
use Rattle.restrict.proofs.met_order.interfaces.meet_interfaces.Goals as goal

pub returns-in_default : goal.returns-in_default
returns-in_default c =
    let out = c.args.mets.now in
    sym (ap (λ (xs : List Met). out ++ xs) (no_interfaces (all_of c.args.world.now.marker.now) (kept_by c.args.kept.now) c.args.at (sym c.in_default.ensures.there)) ∙ append-nil out)

pub returns : goal.returns
returns c =
    let k = c.in-Some.keys in
    let kept = kept_by c.args.kept.now in
    c.in_ok-meet_rows.ensures
    ∙ ap (λ (xs : List Met). c.args.mets.now ++ xs)
    (ap (λ (rs : List AsmRec). flat_map (λ (j : ℕ). option_map_or (met_kept_interface rs kept (place_of k) (rec_of k) j) (slice_get (rec_of k).interface_impl j) []) c.rows_with-rows.result.now) c.in-Some.ensures.are.recs
    ∙ interfaces_grouped (all_of c.args.world.now.marker.now) kept c.args.at (rec_of k) (sym c.in-Some.ensures.there) k.asm.of_types.now.interfaces c.in_ok-token.token c.in_ok-token.ensures c.rows_with-rows.result.now
    c.rows_with-rows.ensures c.in-Some.ensures.are.are.asm.of_types.interfaces (place_of k) c.in-Some.ensures.are.place)
