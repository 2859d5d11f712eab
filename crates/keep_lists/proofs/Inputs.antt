-- The lines of an assembly in its place.
use Rattle.std.proofs.Common.{◌≡◌, ℕ, zero, suc, ◌+◌, ◌<◌, List, [], ◌∷◌, ◌++◌, length, drop, Bool, Option, Some, None, refl, sym, ap, ◌∙◌, append_assoc, arith}
use Rattle.std.specs.Prelude.{slice_get}
use Rattle.std.specs.List.{flat_map}
use Rattle.std.proofs.lemmas.List.{append-nil}
use Rattle.il_base.specs.declared.ids.Item.{Item}
use Rattle.il_base.specs.declared.world_model.record.AsmRec.{AsmRec}
use Rattle.rules.specs.link_rules.Cycles.{listed}
use Rattle.rules.specs.link_rules.Types.{at_row}
use Rattle.rules.specs.type_rules.Texts.{row_name, name_at}
use Rattle.rules.specs.type_rules.Rows.{each_from}
use Rattle.rules.specs.mark_rules.KeepList.{input_lines}

-- the name of a type in the assembly's place
pub name_here : (recs : List AsmRec) (a k : ℕ) (rec : AsmRec) → slice_get recs a ≡ Some rec → row_name rec (length rec.type_def) k ≡ name_at recs (at_row a k)
name_here recs a k rec h = rw (name_at, h) refl

pub lines_here : (recs own : List AsmRec) (kept : Item → Bool) (a b : ℕ) (rec there : AsmRec) → own ≡ recs → b ≡ a → rec ≡ there → slice_get recs a ≡ Some there
    → input_lines own kept b rec ≡ flat_map (input_lines recs kept a) (listed (slice_get recs a))
lines_here recs own kept a b rec there o p r h =
    ap (λ (xs : List AsmRec). input_lines xs kept b rec) o ∙ ap (λ (n : ℕ). input_lines recs kept n rec) p ∙ ap (input_lines recs kept a) r
    ∙ sym (append-nil (input_lines recs kept a there)) ∙ ap (λ (x : Option AsmRec). flat_map (input_lines recs kept a) (listed x)) (sym h)

pub no_lines : (recs : List AsmRec) (kept : Item → Bool) (a : ℕ) (out : List ℕ) → slice_get recs a ≡ None → out ≡ out ++ flat_map (input_lines recs kept a) (listed (slice_get recs a))
no_lines recs kept a out h = rw h (sym (append-nil out))

module _ {A B : Type 0} (f : ℕ → A → List B) where
  -- the lists of the items from a place on, where the first of them is looked up
  step : (xs : List A) (i k : ℕ) → i < length xs → flat_map (f k) (listed (slice_get xs i)) ++ each_from f (suc k) (drop (suc i) xs) ≡ each_from f k (drop i xs)
  step [] i k lt = absurd (omega arith)
  step (x ∷ xs) zero k lt = ap (λ (ys : List B). ys ++ each_from f (suc k) xs) (append-nil (f k x))
  step (x ∷ xs) (suc i) k lt = step xs i k (omega arith)

  pub place_next : (xs : List A) (i : ℕ) (out : List B) → i < length xs
      → (out ++ flat_map (f i) (listed (slice_get xs i))) ++ each_from f (i + 1) (drop (i + 1) xs) ≡ out ++ each_from f i (drop i xs)
  place_next xs i out lt =
      let n : i + 1 ≡ suc i = omega arith in
      append_assoc out (flat_map (f i) (listed (slice_get xs i))) (each_from f (i + 1) (drop (i + 1) xs))
      ∙ ap (λ (k : ℕ). out ++ (flat_map (f i) (listed (slice_get xs i)) ++ each_from f k (drop k xs))) n
      ∙ ap (λ (ys : List B). out ++ ys) (step xs i i lt)
