use Rattle.std.proofs.Common.{ℕ, ◌+◌, List, [], ◌∷◌, ◌++◌, sym, ap, ◌∙◌}
use Rattle.std.proofs.lemmas.List.{append-nil}
use Rattle.il_base.specs.declared.ids.Item.{Item}
use Rattle.mark_parts.specs.mark_tables.Assemblies.{all_of, rec_of}
use Rattle.mark_members.specs.declared.levels.Level.{Level}
use Rattle.mark_members.specs.Levels.{level}
use Rattle.mark_members.proofs.Waiting.{from_one, none_whole}
use Rattle.mark_members.proofs.levels.add_whole_nested.Goals as goal

pub returns-in_default : goal.returns-in_default
returns-in_default c =
    sym (ap (λ (is : List Item). c.args.items.now.items ++ is) (none_whole (all_of c.args.marker.now) c.args.at (sym c.in_default.ensures.there)) ∙ append-nil c.args.items.now.items)

pub returns : goal.returns
returns c =
    c.in_ok-add_levels.ensures
    ∙ ap (λ (is : List Item). c.args.items.now.items ++ is)
    (from_one (all_of c.args.marker.now) c.args.at (rec_of c.in-Some.here) c.in_ok-levels.levels _ (sym c.in-Some.ensures.there) (c.in_ok-levels.ensures ∙ ap (λ (n : ℕ). 1 + n) c.len.ensures)
    (c.in_ok-push.ensures.ok ∙ ap (λ (ls : List Level). ls ++ level c.in_ok-levels.levels c.args.at ∷ []) c.new-waiting.ensures))
