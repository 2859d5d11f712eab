use Rattle.std.proofs.Common.{◌≡◌, ℕ, ◌+◌, ◌<◌, ◌++◌, drop, List, length, Some, sym, subst, ap, ◌∙◌, arith}
use Rattle.std.specs.Prelude.{slice_get, get_or}
use Rattle.std.specs.List.{AllZip}
use Rattle.il_base.specs.declared.world_model.record.AsmRec.{AsmRec}
use Rattle.type_tables.proofs.lemmas.member_search.Zips.{zip_as_long, zip_at}
use Rattle.rules.specs.type_rules.Rows.{each_from}
use Rattle.rules.specs.type_rules.Dispatch.{method_id}
use Rattle.type_tables.specs.declared.groups.Groups.{Groups}
use Rattle.type_tables.specs.Groups.{AreGroups}
use Rattle.rules.specs.mark_rules.Facts.{Fact}
use Rattle.rules.specs.mark_rules.Calls.{declared_in}
use Rattle.mark_parts.specs.mark_tables.Assemblies.{all_of}
use Rattle.mark_parts.specs.mark_tables.Impls.{body_numbers, numbers_from}
use Rattle.mark_parts.proofs.lemmas.mark_tables.Impls.{numbers_at}
use Rattle.mark_items.proofs.lemmas.mark_calls.Finding.{each_next, each_end, here_at}
use Rattle.mark_items.proofs.mark_calls.declarations.add_declared.Goals as goal

own_numbers : (recs : List AsmRec) (a : ℕ) (rec : AsmRec) → slice_get recs a ≡ Some rec → slice_get (numbers_from recs 0 recs) a ≡ Some (body_numbers recs a rec)
own_numbers recs a rec e = let n : 0 + a ≡ a = omega arith in numbers_at recs 0 recs a rec e ∙ ap (λ (k : ℕ). Some (body_numbers recs k rec)) n

pub bounds-made-a : goal.bounds-made-a
bounds-made-a c =
    let recs = all_of c.args.marker.now in
    let there : slice_get recs c.loop-a.a ≡ Some c.index-all-a.result = subst (λ (rs : List AsmRec). slice_get rs c.loop-a.a ≡ Some c.index-all-a.result) c.as_slice-all.ensures (here_at c.as_slice-all.result.now c.loop-a.a c.index-all-a.result c.loop-a-test.true c.index-all-a.is) in
    subst (λ (gs : List Groups). c.loop-a.a < length gs) (sym c.as_slice-made.ensures.value)
    (zip_as_long AreGroups (numbers_from recs 0 recs) c.args.marker.now.impls.items c.requires.impls c.loop-a.a (body_numbers recs c.loop-a.a c.index-all-a.result) (own_numbers recs c.loop-a.a c.index-all-a.result there))

pub add_rows-requires-clause-here : goal.add_rows-requires-clause-here
add_rows-requires-clause-here c =
    ap (slice_get (all_of c.args.marker.now)) c.in_ok-asm.ensures
    ∙ subst (λ (rs : List AsmRec). slice_get rs c.loop-a.a ≡ Some c.index-all-a.result) c.as_slice-all.ensures (here_at c.as_slice-all.result.now c.loop-a.a c.index-all-a.result c.loop-a-test.true c.index-all-a.is)

pub add_rows-requires-clause-rows : goal.add_rows-requires-clause-rows
add_rows-requires-clause-rows c =
    let recs = all_of c.args.marker.now in
    let made = c.as_slice-made.result.now in
    let there : slice_get recs c.loop-a.a ≡ Some c.index-all-a.result = subst (λ (rs : List AsmRec). slice_get rs c.loop-a.a ≡ Some c.index-all-a.result) c.as_slice-all.ensures (here_at c.as_slice-all.result.now c.loop-a.a c.index-all-a.result c.loop-a-test.true c.index-all-a.is) in
    let are : AreGroups (body_numbers recs c.loop-a.a c.index-all-a.result) (get_or made c.loop-a.a c.index-made-a.result) =
    zip_at AreGroups (numbers_from recs 0 recs) made (subst (λ (gs : List Groups). AllZip AreGroups (numbers_from recs 0 recs) gs) (sym c.as_slice-made.ensures.value) c.requires.impls) c.loop-a.a
    (body_numbers recs c.loop-a.a c.index-all-a.result) c.index-made-a.result (own_numbers recs c.loop-a.a c.index-all-a.result there) in
    let own : AreGroups (body_numbers recs c.loop-a.a c.index-all-a.result) c.index-made-a.result = subst (λ (g : Groups). AreGroups (body_numbers recs c.loop-a.a c.index-all-a.result) g) (sym c.index-made-a.is) are in
    subst (λ (n : ℕ). AreGroups (body_numbers recs n c.index-all-a.result) c.index-made-a.result) (sym c.in_ok-asm.ensures) own

pub loop-a-preserved : goal.loop-a-preserved
loop-a-preserved c =
    let f = declared_in (all_of c.args.marker.now) c.args.at in
    ap (λ (fs : List Fact). fs ++ each_from f (c.loop-a.a + 1) (drop (c.loop-a.a + 1) c.as_slice-all.result.now))
    (c.in_ok-add_rows.ensures ∙ ap (λ (n : ℕ). c.loop-a.facts ++ f n c.index-all-a.result) c.in_ok-asm.ensures)
    ∙ each_next f c.as_slice-all.result.now c.loop-a.a c.index-all-a.result c.loop-a.facts c.loop-a-test.true c.index-all-a.is ∙ c.loop-a.invariant

pub returns : goal.returns
returns c =
    let f = declared_in (all_of c.args.marker.now) c.args.at in
    sym (each_end f c.as_slice-all.result.now c.loop-a.a c.loop-a.facts c.loop-a-test.false) ∙ c.loop-a.invariant ∙ ap (λ (rs : List AsmRec). c.args.facts.now ++ each_from f 0 rs) c.as_slice-all.ensures
