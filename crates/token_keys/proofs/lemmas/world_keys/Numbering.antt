-- One assembly more with its numbers.
use Rattle.std.proofs.Common.{◌≡◌, ◌<◌, ℕ, ◌+◌, List, [], ◌∷◌, ◌++◌, length, Some, sym, ap, subst, ◌∙◌, arith, get_or, length-append, ◌⊎◌, inl, inr}
use Rattle.std.specs.Prelude.{slice_get}
use Rattle.std.proofs.lemmas.Option.{slice_get_within, slice_get-get_or}
use Rattle.il_base.specs.declared.world_model.record.AsmRec.{AsmRec}
use Rattle.base_laws.proofs.lemmas.link_laws.Lists.{get_front, get_behind}
use Rattle.merge_plan.specs.declared.moved_parts.tokens.NewTokens.{NewTokens}
use Rattle.token_keys.specs.signature_rows.Laws.{AreNumbers}
use Rattle.token_keys.specs.world_keys.Keys.{AreFirstNumbers}

split : (a n : ℕ) → a < n + 1 → (a < n) ⊎ (a ≡ n)
split a n h = grind arith

same_some : {A : Type 0} (x y : A) → Some x ≡ Some y → x ≡ y
same_some x y e = cc

module _ (recs : List AsmRec) (n : ℕ) (all : List NewTokens) (rec : AsmRec) (t : NewTokens) (here : slice_get recs n ≡ Some rec) (are : AreNumbers recs n rec t) (before : AreFirstNumbers recs n all) where
  last_by : (a : ℕ) (r : AsmRec) (s : NewTokens) → slice_get recs a ≡ Some r → slice_get (all ++ t ∷ []) a ≡ Some s → (a < n) ⊎ (a ≡ n) → AreNumbers recs a r s
  last_by a r s there is (inl lt) =
      before.each a r s there (sym (get_front all (t ∷ []) a (let l : a < length all = omega (arith, before.long) in l)) ∙ is)
  last_by a r s there is (inr e) =
      let at : a ≡ length all + 0 = omega (arith, before.long) in
      let last : t ≡ s = same_some t s (sym (get_behind all (t ∷ []) 0) ∙ ap (slice_get (all ++ t ∷ [])) (sym at) ∙ is) in
      let own : rec ≡ r = same_some rec r (sym here ∙ ap (slice_get recs) (sym e) ∙ there) in
      let one : AreNumbers recs a rec t = subst (λ (k : ℕ). AreNumbers recs k rec t) (sym e) are in
      let two : AreNumbers recs a r t = subst (λ (x : AsmRec). AreNumbers recs a x t) own one in
      subst (λ (x : NewTokens). AreNumbers recs a r x) last two

  pub one_more : AreFirstNumbers recs (n + 1) (all ++ t ∷ [])
  one_more = record {
    long = length-append all (t ∷ []) ∙ ap (λ (k : ℕ). k + 1) before.long;
    each = λ a r s there is.
        last_by a r s there is
        (split a n (let lt : a < length (all ++ t ∷ []) = slice_get_within (all ++ t ∷ []) a s is in let l : length (all ++ t ∷ []) ≡ length all + 1 = length-append all (t ∷ []) in omega (arith, lt, l, before.long)));
  }

pub none_first : (recs : List AsmRec) (all : List NewTokens) → all ≡ [] → AreFirstNumbers recs 0 all
none_first recs all e = record {
  long = ap length e;
  each = λ a rec t there is. absurd (let lt : a < length all = slice_get_within all a t is in let l : length all ≡ 0 = ap length e in omega (arith, lt, l));
}

pub moved_numbers : (recs others : List AsmRec) (a b : ℕ) (rec : AsmRec) (t : NewTokens) → others ≡ recs → b ≡ a → AreNumbers others b rec t → AreNumbers recs a rec t
moved_numbers recs others a b rec t same at are =
    subst (λ (k : ℕ). AreNumbers recs k rec t) at (subst (λ (rs : List AsmRec). AreNumbers rs b rec t) same are)

-- the numbers of an assembly in its place
pub numbers_within : (recs : List AsmRec) (all : List NewTokens) → AreFirstNumbers recs (length recs) all → (a : ℕ) (rec : AsmRec) → slice_get recs a ≡ Some rec → a < length all
numbers_within recs all are a rec here = let lt : a < length recs = slice_get_within recs a rec here in omega (arith, lt, are.long)

pub numbers_at : (recs : List AsmRec) (all : List NewTokens) → AreFirstNumbers recs (length recs) all → (a : ℕ) (rec : AsmRec) → slice_get recs a ≡ Some rec → (b : ℕ) → b ≡ a → (d : NewTokens)
    → AreNumbers recs b rec (get_or all a d)
numbers_at recs all are a rec here b same d =
    subst (λ (k : ℕ). AreNumbers recs k rec (get_or all a d)) (sym same) (are.each a rec (get_or all a d) here (slice_get-get_or all a d (numbers_within recs all are a rec here)))
