-- The type that encloses a type.
use Rattle.std.proofs.Common.{◌≡◌, ℕ, List, Option, Some, None, refl, sym, ap, ◌∙◌}
use Rattle.std.specs.Prelude.{slice_get}
use Rattle.std.specs.Option.{option_map, option_and_then}
use Rattle.il_base.specs.declared.ids.TypeId.{TypeId}
use Rattle.il_base.specs.declared.world_model.record.AsmRec.{AsmRec}
use Rattle.il_base.specs.world_model.Worlds.{type_id}
use Rattle.rules.specs.declared.link_rules.row_at.RowAt.{RowAt}
use Rattle.rules.specs.link_rules.Types.{encloser}
use Rattle.rules.specs.merge_rules.Refs.{enclosing_type}
use Rattle.resolver.specs.type_links.Index.{encloser_at}

enclosing_case : (f : ℕ → TypeId) (k : ℕ) (rec : Option AsmRec)
    → option_and_then (λ (rec : AsmRec). option_map f (encloser rec k)) rec ≡ option_map f (option_and_then (λ (rec : AsmRec). encloser rec k) rec)
enclosing_case f k None = refl
enclosing_case f k (Some rec) = refl

pub enclosing_is : (recs : List AsmRec) (at : RowAt) → enclosing_type recs at ≡ option_map (type_id recs at.asm) (encloser_at recs at.asm at.row)
enclosing_is recs at = enclosing_case (type_id recs at.asm) at.row (slice_get recs at.asm)

pub none_around : (recs : List AsmRec) (at : RowAt) → None ≡ encloser_at recs at.asm at.row → None ≡ enclosing_type recs at
none_around recs at e = ap (option_map (type_id recs at.asm)) e ∙ sym (enclosing_is recs at)

pub some_around : (recs : List AsmRec) (at : RowAt) (row : ℕ) (id : TypeId) → Some row ≡ encloser_at recs at.asm at.row → id ≡ type_id recs at.asm row → Some id ≡ enclosing_type recs at
some_around recs at row id e f = ap (λ (t : TypeId). Some t) f ∙ ap (option_map (type_id recs at.asm)) e ∙ sym (enclosing_is recs at)
