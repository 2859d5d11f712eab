-- One assembly more with its texts.
use Rattle.std.proofs.Common.{◌≡◌, ◌<◌, ℕ, ◌+◌, List, [], ◌∷◌, ◌++◌, length, Some, sym, ap, subst, ◌∙◌, arith, get_or, length-append, ◌⊎◌, inl, inr}
use Rattle.std.specs.Prelude.{slice_get}
use Rattle.std.proofs.lemmas.Option.{slice_get_within, slice_get-get_or}
use Rattle.il_base.specs.declared.world_model.record.AsmRec.{AsmRec}
use Rattle.base_laws.proofs.lemmas.link_laws.Lists.{get_front, get_behind}
use Rattle.merged_tables.specs.declared.merged_texts.loads.Loads.{Loads}
use Rattle.merged_tables.specs.merged_texts.Texts.{AreLoads, AreFirstLoads}

split : (a n : ℕ) → a < n + 1 → (a < n) ⊎ (a ≡ n)
split a n h = grind arith

same_some : {A : Type 0} (x y : A) → Some x ≡ Some y → x ≡ y
same_some x y e = cc

module _ (recs : List AsmRec) (n : ℕ) (all : List Loads) (rec : AsmRec) (t : Loads) (here : slice_get recs n ≡ Some rec) (are : AreLoads rec t) (before : AreFirstLoads recs n all) where
  last_by : (a : ℕ) (r : AsmRec) (s : Loads) → slice_get recs a ≡ Some r → slice_get (all ++ t ∷ []) a ≡ Some s → (a < n) ⊎ (a ≡ n) → AreLoads r s
  last_by a r s there is (inl lt) =
      before.each a r s there (sym (get_front all (t ∷ []) a (let l : a < length all = omega (arith, before.long) in l)) ∙ is)
  last_by a r s there is (inr e) =
      let at : a ≡ length all + 0 = omega (arith, before.long) in
      let last : t ≡ s = same_some t s (sym (get_behind all (t ∷ []) 0) ∙ ap (slice_get (all ++ t ∷ [])) (sym at) ∙ is) in
      let own : rec ≡ r = same_some rec r (sym here ∙ ap (slice_get recs) (sym e) ∙ there) in
      let two : AreLoads r t = subst (λ (x : AsmRec). AreLoads x t) own are in
      subst (λ (x : Loads). AreLoads r x) last two

  pub one_more : AreFirstLoads recs (n + 1) (all ++ t ∷ [])
  one_more = record {
    long = length-append all (t ∷ []) ∙ ap (λ (k : ℕ). k + 1) before.long;
    each = λ a r s there is.
        last_by a r s there is
        (split a n (let lt : a < length (all ++ t ∷ []) = slice_get_within (all ++ t ∷ []) a s is in let l : length (all ++ t ∷ []) ≡ length all + 1 = length-append all (t ∷ []) in omega (arith, lt, l, before.long)));
  }

pub none_first : (recs : List AsmRec) (all : List Loads) → all ≡ [] → AreFirstLoads recs 0 all
none_first recs all e = record {
  long = ap length e;
  each = λ a rec t there is. absurd (let lt : a < length all = slice_get_within all a t is in let l : length all ≡ 0 = ap length e in omega (arith, lt, l));
}

-- the texts of an assembly in its place
pub loads_within : (recs : List AsmRec) (all : List Loads) → AreFirstLoads recs (length recs) all → (a : ℕ) (rec : AsmRec) → slice_get recs a ≡ Some rec → a < length all
loads_within recs all are a rec here = let lt : a < length recs = slice_get_within recs a rec here in omega (arith, lt, are.long)

pub loads_at : (recs : List AsmRec) (all : List Loads) → AreFirstLoads recs (length recs) all → (a : ℕ) (rec : AsmRec) → slice_get recs a ≡ Some rec → (d : Loads) → AreLoads rec (get_or all a d)
loads_at recs all are a rec here d = are.each a rec (get_or all a d) here (slice_get-get_or all a d (loads_within recs all are a rec here))

pub item_there : (recs : List AsmRec) (k : ℕ) (rec : AsmRec) → rec ≡ get_or recs k rec → k < length recs → slice_get recs k ≡ Some rec
item_there recs k rec is lt = slice_get-get_or recs k rec lt ∙ ap (λ (r : AsmRec). Some r) (sym is)
