-- One more kind, and the kinds of one more assembly.
use Rattle.std.proofs.Common.{◌≡◌, ◌<◌, ◌≤◌, ℕ, zero, suc, ◌+◌, ◌-◌, List, [], ◌∷◌, ◌++◌, length, map, drop, get_or, refl, sym, ap, subst, ◌∙◌, arith, append_assoc, append-nil, drop-cons}
use Rattle.std.specs.List.{range_with_len}
use Rattle.il_base.specs.declared.world_model.record.AsmRec.{AsmRec}
use Rattle.cil_world.specs.declared.world_layouts.kinds.TypeKind.{TypeKind}
use Rattle.cil_world.specs.world_layouts.Kinds.{kinds_in, kinds_from}

pub one_more : {A : Type 0} (f : ℕ → A) (xs new : List A) (x : A) (k end : ℕ) → k < end → new ≡ xs ++ x ∷ [] → x ≡ f k
    → new ++ map f (range_with_len (k + 1) (end - (k + 1))) ≡ xs ++ map f (range_with_len k (end - k))
one_more f xs new x k end below put is =
    let n : end - k ≡ suc (end - (k + 1)) = omega arith in
    ap (λ (ys : _). ys ++ map f (range_with_len (k + 1) (end - (k + 1)))) (put ∙ ap (λ (y : _). xs ++ y ∷ []) is)
    ∙ append_assoc xs (f k ∷ []) (map f (range_with_len (k + 1) (end - (k + 1)))) ∙ ap (λ (m : ℕ). xs ++ map f (range_with_len k m)) (sym n)

drop_past : {A : Type 0} (xs : List A) (n : ℕ) → length xs ≤ n → drop n xs ≡ []
drop_past [] zero h = refl
drop_past [] (suc n) h = refl
drop_past (x ∷ xs) zero h = absurd (omega arith)
drop_past (x ∷ xs) (suc n) h = drop_past xs n (omega arith)

module _ (all its : List AsmRec) (same : its ≡ all) (a : ℕ) (xs : List TypeKind) where
  pub next_assembly : (asm : ℕ) (new : List TypeKind) (rec : AsmRec) → asm ≡ a → a < length its → rec ≡ get_or its a rec → new ≡ xs ++ kinds_in all asm rec
      → new ++ kinds_from all (a + 1) (drop (a + 1) all) ≡ xs ++ kinds_from all a (drop a all)
  unfolding kinds_from
  next_assembly asm new rec number lt is put =
      let one : a + 1 ≡ suc a = omega arith in
      let below : a < length all = subst (λ (l : List AsmRec). a < length l) same lt in
      let here : rec ≡ get_or all a rec = subst (λ (l : List AsmRec). rec ≡ get_or l a rec) same is in
      let split : drop a all ≡ rec ∷ drop (suc a) all = drop-cons all a rec below ∙ ap (λ (r : AsmRec). r ∷ drop (suc a) all) (sym here) in
      ap (λ (n : ℕ). new ++ kinds_from all n (drop n all)) one
      ∙ ap (λ (ys : List TypeKind). ys ++ kinds_from all (suc a) (drop (suc a) all)) (put ∙ ap (λ (n : ℕ). xs ++ kinds_in all n rec) number)
      ∙ append_assoc xs (kinds_in all a rec) (kinds_from all (suc a) (drop (suc a) all))
      ∙ ap (λ (rs : List AsmRec). xs ++ kinds_from all a rs) (sym split)

  pub no_assembly : length its ≤ a → xs ≡ xs ++ kinds_from all a (drop a all)
  unfolding kinds_from
  no_assembly past =
      let most : length all ≤ a = subst (λ (l : List AsmRec). length l ≤ a) same past in
      sym (ap (λ (rs : List AsmRec). xs ++ kinds_from all a rs) (drop_past all a most) ∙ append-nil xs)
