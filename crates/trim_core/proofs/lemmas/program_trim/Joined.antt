-- What is marked, kept and planned, as the answer of a trim has it.
use Rattle.std.proofs.Common.{◌≡◌, ℕ, Bool, List, Option, Some, None, sym, subst, inl, inr}
use Rattle.std.specs.Prelude.{IsTrue, ◌↔◌}
use Rattle.il_base.specs.declared.bits.Bits.{Bits}
use Rattle.il_base.specs.declared.ids.TypeId.{TypeId}
use Rattle.il_base.specs.declared.ids.Place.{Place}
use Rattle.il_base.specs.declared.world_model.known.BadKind.{BadKind}
use Rattle.il_base.specs.declared.world_model.known.BadKind.TheVariants.{Unresolved, Outside, Over}
use Rattle.il_base.specs.declared.world_model.record.AsmRec.{AsmRec}
use Rattle.rules.specs.declared.link_rules.row_at.RowAt.{RowAt}
use Rattle.descriptor_file.specs.declared.root.Root.{Root}
use Rattle.rules.specs.mark_rules.Facts.{Fact}
use Rattle.rules.specs.mark_rules.Facts.Fact.{marked, shown}
use Rattle.rules.specs.mark_rules.Marking.{Marks}
use Rattle.rules.specs.mark_rules.KeepList.{keep_list}
use Rattle.marking.specs.declared.marked.Marked.{Marked}
use Rattle.marking.specs.Holding.{IsMarked}
use Rattle.rules.specs.merge_rules.Numbers.{Kept}
use Rattle.rules.specs.merge_rules.Restricted.{restricted}
use Rattle.merge_plan.specs.declared.kept.KeptItems.{KeptItems}
use Rattle.merge_plan.specs.Kept.{kept_by}
use Rattle.merge_plan.specs.Contests.{shown_by}
use Rattle.rules.specs.record_layout.Laid.{laid}
use Rattle.rules.specs.record_layout.Limits.{limit_of}
use Rattle.record_writer.specs.CanWrite.{CanWrite}
use Rattle.kept_marks.specs.Keeping.{KeepsMarked, ShowsMarked}
use Rattle.trim_core.specs.declared.program_trim.answers.ProgramTrim.{ProgramTrim}
use Rattle.trim_core.specs.declared.program_trim.answers.TrimFault.TheVariants as refusal
use Rattle.trim_core.specs.program_trim.Trim.{AreFacts, IsKeptSet, IsShownSet, IsCollision, HasNoFlaw, IsFollowed, IsFlawedAt, TrimmedWorld, Collides, RefusesWorld}
use Rattle.trim_core.specs.program_trim.Programs.{IsFirst, refusal_by}

module _ (recs : List AsmRec) (entry : Option RowAt) (roots : List Root) where
  -- kept is exactly what is marked, if the flags are those of a marked set
  pub kept_set : (m : Marked) (k : KeptItems) → IsMarked recs entry roots m → KeepsMarked recs m k → IsKeptSet recs entry roots (kept_by k)
  kept_set m k is keeps = record {
    exact = λ i at. subst (λ (b : Bool). IsTrue b ↔ Marks recs entry roots (marked i)) (sym (keeps.there i at)) (is (marked i) at);
    absent = keeps.others;
  }

  pub shown_set : (m : Marked) (bits : Bits) → IsMarked recs entry roots m → ShowsMarked recs m bits → IsShownSet recs entry roots (shown_by bits)
  shown_set m bits is shows t at = subst (λ (b : Bool). IsTrue b ↔ Marks recs entry roots (shown t)) (sym (shows.there t at)) (is (shown t) at)

  -- the first flaw is the refusal's
  pub refused : (internal : Bool) (place : Place) (kind : BadKind) → IsFlawedAt recs entry roots place kind → RefusesWorld recs entry roots internal (refusal_by place kind)
  refused internal place Unresolved h = h
  refused internal place (Outside what) h = h
  refused internal place (Over which found) h = inl (record { place = place; flawed = h })

  module _ (kept : Kept) (exact : IsKeptSet recs entry roots kept) (good : HasNoFlaw recs entry roots) (followed : IsFollowed recs entry roots) where
    pub collides : (seen : TypeId → Bool) (first second : TypeId) → IsShownSet recs entry roots seen → IsFirst recs seen kept first second → Collides recs entry roots first second
    collides seen first second shows f = record {
      kept = kept;
      exact = exact;
      good = good;
      followed = followed;
      both = f.both;
      collides = record { seen = seen; exact = shows; first = f.is };
      first_is = f.first_is;
      second_is = f.second_is;
    }

    module _ (unique : IsCollision recs entry roots kept None) (internal : Bool) (left : AsmRec) (is : restricted internal recs kept ≡ Some left) where
      pub trimmed : (t : ProgramTrim) (holds : Fact → Bool) → AreFacts recs entry roots holds → t.bytes ≡ laid left → CanWrite left → limit_of left ≡ None → t.kept ≡ keep_list recs kept
          → TrimmedWorld recs entry roots internal t
      trimmed t holds facts bytes can within list = record {
        kept = kept;
        exact = exact;
        good = good;
        followed = followed;
        holds = holds;
        facts = facts;
        unique = unique;
        left = left;
        restricted = is;
        bytes = bytes;
        can = can;
        within = within;
        list = list;
      }

      pub too_long : (which found : ℕ) → limit_of left ≡ Some (which, found) → RefusesWorld recs entry roots internal (refusal.Limit which found)
      too_long which found passed = inr (record {
        kept = kept;
        exact = exact;
        good = good;
        followed = followed;
        unique = unique;
        left = left;
        restricted = is;
        passed = passed;
      })
