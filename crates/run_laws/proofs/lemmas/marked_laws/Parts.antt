-- What a part of a marked item names is kept.
use Rattle.std.proofs.Common.{◌≡◌, ℕ, Bool, List, Option, Some, ap}
use Rattle.std.specs.Prelude.{IsTrue}
use Rattle.il_base.specs.declared.ids.Item.{Item}
use Rattle.il_base.specs.declared.ids.Item.TheVariants as item
use Rattle.il_base.specs.declared.world_model.known.Known.TheVariants.{Good}
use Rattle.il_base.specs.declared.world_model.expr.TypeExpr.{TypeExpr}
use Rattle.il_base.specs.declared.world_model.record.AsmRec.{AsmRec}
use Rattle.il_base.specs.world_model.Worlds.{known_map}
use Rattle.rules.specs.declared.link_rules.row_at.RowAt.{RowAt}
use Rattle.rules.specs.link_rules.Signatures.{token_type}
use Rattle.base_laws.proofs.lemmas.type_laws.Within.{In, in_front}
use Rattle.descriptor_file.specs.declared.root.Root.{Root}
use Rattle.rules.specs.mark_rules.Facts.{Fact}
use Rattle.rules.specs.mark_rules.Facts.Fact.{marked}
use Rattle.rules.specs.mark_rules.Places.{row_of}
use Rattle.rules.specs.mark_rules.Naming.{Named, Part, of_named, of_parts, types_in, type_token_part}
use Rattle.rules.specs.mark_rules.Naming.Named.{type}
use Rattle.rules.specs.mark_rules.Shown.{arguments_of_parts, parts_of_item, showing_parts, shown_by_item}
use Rattle.rules.specs.mark_rules.Marking.{row_needs}
use Rattle.rules.specs.change_rules.Keeps.{keeps_expr}
use Rattle.run_laws.specs.marked_laws.Flags.{HasMarks, HasClass, keep_of}
use Rattle.run_laws.proofs.lemmas.marked_laws.Closing.{mapped_in, in_parts_of, in_arguments_of, part_gives, item_gives_shown}
use Rattle.run_laws.proofs.lemmas.marked_laws.Named.{TypesKept, ArgumentsShown, kept_by_parts, arguments_are_types}
use Rattle.run_laws.proofs.lemmas.marked_laws.Flags.{typ_is, shown_is}

-- the part of a token that names a type
pub token_named : (recs : List AsmRec) (a : ℕ) (rec : AsmRec) (place at token : ℕ) (e : TypeExpr) → token_type recs a rec token ≡ Good e → (type_token_part recs a rec place at token).named ≡ Good (type e)
token_named recs a rec place at token e h = ap (known_map type) h

module _ (recs : List AsmRec) (entry : Option RowAt) (roots : List Root) (has : Fact → Bool) (m : HasMarks recs entry roots has) where
  -- an item whose parts are among what its row needs
  pub record HasParts (i : Item) (at : RowAt) : Type 0 where
    pub marks : IsTrue (has (marked i))
    pub is : row_of recs i ≡ Some at
    pub classed : HasClass recs has i at
    pub needs : (f : Fact) → In f (of_parts (parts_of_item recs i at)) → In f (row_needs recs i at)

  pub part_marks : (i : Item) (at : RowAt) → HasParts i at → (p : Part) (n : Named) (f : Fact) → In p (parts_of_item recs i at) → p.named ≡ Good n → In f (of_named n) → IsTrue (has f)
  part_marks i at h p n f q e g = part_gives recs entry roots has m i at f h.marks h.is h.classed (in_parts_of (parts_of_item recs i at) p n f q e g)

  pub part_types : (i : Item) (at : RowAt) → HasParts i at → (p : Part) (e : TypeExpr) → In p (parts_of_item recs i at) → p.named ≡ Good (type e) → TypesKept (keep_of recs has) e
  part_types i at h p e q is t g = typ_is recs has t (part_marks i at h p (type e) (marked (item.Typ t)) q is (mapped_in (λ t. marked (item.Typ t)) t (types_in e) g))

  pub part_shows : (i : Item) (at : RowAt) → HasParts i at → (p : Part) (e : TypeExpr) → In p (parts_of_item recs i at) → In p (showing_parts recs i at) → p.named ≡ Good (type e) → ArgumentsShown (keep_of recs has) e
  part_shows i at h p e q s is t g =
      shown_is recs has t
      (part_marks i at h p (type e) (marked (item.Typ t)) q is (mapped_in (λ t. marked (item.Typ t)) t (types_in e) (arguments_are_types (keep_of recs has) e t g)))
      (item_gives_shown recs entry roots has m i at t h.marks h.is
      (in_front t (arguments_of_parts (showing_parts recs i at)) (shown_by_item recs i at) (in_arguments_of (showing_parts recs i at) p (type e) t s is g)))

  -- a type that a part names in which arguments are shown
  pub part_kept : (i : Item) (at : RowAt) → HasParts i at → (p : Part) (e : TypeExpr) → In p (parts_of_item recs i at) → In p (showing_parts recs i at) → p.named ≡ Good (type e) → IsTrue (keeps_expr (keep_of recs has) e)
  part_kept i at h p e q s is = kept_by_parts (keep_of recs has) e (part_types i at h p e q is) (part_shows i at h p e q s is)
