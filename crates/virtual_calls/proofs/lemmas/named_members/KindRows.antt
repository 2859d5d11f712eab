-- The members of a type that have a wanted name: those of its definition in its assembly.
use Rattle.std.proofs.Common.{◌≡◌, ℕ, List, [], ◌∷◌, map, Bool, true, false, cond, Option, Some, None, refl, ap, ◌∙◌, append-nil}
use Rattle.std.specs.Prelude.{slice_get, ◌||◌}
use Rattle.std.specs.List.{filter, flat_map}
use Rattle.il_base.specs.declared.world_model.expr.TypeExpr.{TypeExpr}
use Rattle.il_base.specs.declared.world_model.types.TypeDefRow.{TypeDefRow}
use Rattle.il_base.specs.declared.world_model.record.AsmRec.{AsmRec}
use Rattle.rules.specs.declared.link_rules.row_at.RowAt.{RowAt}
use Rattle.rules.specs.link_rules.Types.{at_row}
use Rattle.rules.specs.link_rules.Cycles.{listed, home_of}
use Rattle.virtual_calls.specs.declared.named_members.kinds.Kind.{Kind}
use Rattle.virtual_calls.specs.declared.named_members.kinds.Kind.TheVariants.{Field, Method, Property, Event}
use Rattle.virtual_calls.specs.named_members.Kinds.{members_of, is_named, named_rows, rows_at, named_at, has_name, named_in}

one : (b : Bool) → (b || false) ≡ b
one true = refl
one false = refl

-- whether one of an assembly has a wanted name
named_there : (recs : List AsmRec) (wanted : Option (List ℕ)) (kind : Kind) (asm : ℕ) (rec : AsmRec) (k : ℕ) → slice_get recs asm ≡ Some rec → is_named recs wanted kind (at_row asm k) ≡ has_name kind rec wanted k
named_there recs wanted Field asm rec k e = rw e (one (has_name Field rec wanted k))
named_there recs wanted Method asm rec k e = rw e refl
named_there recs wanted Property asm rec k e = rw e (one (has_name Property rec wanted k))
named_there recs wanted Event asm rec k e = rw e (one (has_name Event rec wanted k))

filter_next : {A B : Type 0} (f : A → B) (p : B → Bool) (q : A → Bool) (x : A) (xs : List A) (b : Bool) → p (f x) ≡ b → q x ≡ b → filter p (map f xs) ≡ map f (filter q xs)
    → cond (p (f x)) (f x ∷ filter p (map f xs)) (filter p (map f xs)) ≡ map f (cond (q x) (x ∷ filter q xs) (filter q xs))
filter_next f p q x xs true g h e = rw (g, h, e) refl
filter_next f p q x xs false g h e = rw (g, h, e) refl

filter_map : {A B : Type 0} (f : A → B) (p : B → Bool) (q : A → Bool) → ((x : A) → p (f x) ≡ q x) → (xs : List A) → filter p (map f xs) ≡ map f (filter q xs)
filter_map f p q h [] = refl
filter_map f p q h (x ∷ xs) = filter_next f p q x xs (q x) (h x) refl (filter_map f p q h xs)

flat_one : {A B : Type 0} (g : A → List B) (o : Option A) (x : A) → o ≡ Some x → flat_map g (listed o) ≡ g x
flat_one g o x e = ap (λ (p : Option _). flat_map g (listed p)) e ∙ append-nil (g x)

flat_none : {A B : Type 0} (g : A → List B) (o : Option A) → o ≡ None → flat_map g (listed o) ≡ []
flat_none g o e = ap (λ (p : Option _). flat_map g (listed p)) e

module _ (recs : List AsmRec) (wanted : Option (List ℕ)) (kind : Kind) where
  members_at : RowAt → AsmRec → TypeDefRow → List RowAt
  members_at at rec t = map (at_row at.asm) (members_of kind rec t at.row)

  pub named_of_row : (at : RowAt) (rec : AsmRec) (t : TypeDefRow) → slice_get recs at.asm ≡ Some rec → slice_get rec.type_def at.row ≡ Some t → named_at recs wanted kind at ≡ named_in kind rec wanted at t
  named_of_row at rec t e h =
      ap (filter (is_named recs wanted kind))
      (flat_one (λ (r : AsmRec). flat_map (λ (u : TypeDefRow). map (at_row at.asm) (members_of kind r u at.row)) (listed (slice_get r.type_def at.row))) (slice_get recs at.asm) rec e
      ∙ flat_one (λ (u : TypeDefRow). map (at_row at.asm) (members_of kind rec u at.row)) (slice_get rec.type_def at.row) t h)
      ∙ filter_map (at_row at.asm) (is_named recs wanted kind) (has_name kind rec wanted) (λ k. named_there recs wanted kind at.asm rec k e) (members_of kind rec t at.row)

  pub named_of_type : (e : TypeExpr) (at : RowAt) → home_of recs e ≡ Some at → named_rows recs wanted kind e ≡ named_at recs wanted kind at
  named_of_type e at h = ap (filter (is_named recs wanted kind)) (flat_one (rows_at recs kind) (home_of recs e) at h)
