-- One assembly more with its new tokens, and the tokens of all.
use Rattle.std.proofs.Common.{◌≡◌, ◌<◌, ◌≤◌, ℕ, ◌+◌, List, [], ◌∷◌, ◌++◌, length, Some, sym, ap, subst, ◌∙◌, arith, length-append, ◌⊎◌, inl, inr}
use Rattle.std.specs.Prelude.{slice_get}
use Rattle.std.proofs.lemmas.Option.{slice_get_within, slice_get_cases}
use Rattle.il_base.specs.declared.world_model.record.AsmRec.{AsmRec}
use Rattle.base_laws.proofs.lemmas.link_laws.Lists.{get_front, get_behind}
use Rattle.rules.specs.merge_rules.Refs.{Output}
use Rattle.merge_plan.specs.declared.moved_parts.tokens.TokenMap.{TokenMap}
use Rattle.merge_plan.specs.declared.moved_parts.tokens.NewTokens.{NewTokens}
use Rattle.merge_plan.specs.moved_parts.Moves.{new_token}
use Rattle.merge_plan.specs.moved_parts.Laws.{AreNewTokens}
use Rattle.merged_tables.specs.merged_texts.Texts.{text_by}
use Rattle.merged_tables.specs.merged_texts.Laws.{TextsTell}
use Rattle.merged_tables.specs.merged_members.Laws.{HasTokens, HaveTokens}
use Rattle.token_keys.specs.declared.keys.Keys.{Keys}
use Rattle.token_keys.specs.Keys.{rec_of}
use Rattle.token_keys.specs.world_keys.Keys.{AreKeysAt}
use Rattle.restrict.specs.declared.assembly_tokens.moving.Moving.{Moving}
use Rattle.restrict.specs.assembly_tokens.Tokens.{AreMovedTokens}
use Rattle.restrict.specs.assembly_tokens.Laws.{AssemblyTokensTell}
use Rattle.restrict.specs.declared.member_rows.parts.RowParts.{RowParts}
use Rattle.restrict.specs.member_rows.Rows.{recs_of}
use Rattle.restrict.specs.member_rows.Laws.{ArePartsOf}
use Rattle.restrict.specs.output_tokens.Tokens.{AreTextsMet, TellTokens, AreFirstTokens}

split : (a n : ℕ) → a < n + 1 → (a < n) ⊎ (a ≡ n)
split a n h = grind arith

same_some : {A : Type 0} (x y : A) → Some x ≡ Some y → x ≡ y
same_some x y e = cc

-- ---- one assembly

abbrev moving_with : RowParts → Keys → Moving
moving_with p k = record { keys = k; tokens = p.keys; numbers = p.numbers }

module _ (tokens_tell : AssemblyTokensTell) (texts_tell : TextsTell) (p : RowParts) (texts : List (List ℕ)) (place : ℕ) (k : Keys) (at : AreKeysAt p.world place k) where
  told : (t : NewTokens) (loaded : TokenMap) → AreMovedTokens (moving_with p k) t → t.texts ≡ loaded → ((q : ℕ) → new_token loaded q ≡ text_by texts (rec_of k) q)
      → TellTokens p texts place (rec_of k) t
  told t loaded moved same each = λ o parts met.
      subst (λ (a : ℕ). AreNewTokens o a (rec_of k) t) at.place
      (tokens_tell o (moving_with p k) t (record { recs = at.recs ∙ parts.recs; tokens = parts.keys; numbers = parts.numbers }) moved
      (λ q. ap (λ (m : TokenMap). new_token m q) same ∙ each q ∙ (texts_tell o texts met).tokens (rec_of k) q))

  pub told_here : (t : NewTokens) (loaded : TokenMap) → AreMovedTokens (moving_with p k) t → t.texts ≡ loaded → ((q : ℕ) → new_token loaded q ≡ text_by texts (rec_of k) q)
      → Some (rec_of k) ≡ slice_get (recs_of p) place → (rec : AsmRec) → slice_get (recs_of p) place ≡ Some rec → TellTokens p texts place rec t
  told_here t loaded moved same each here rec there =
      subst (λ (r : AsmRec). TellTokens p texts place r t) (same_some (rec_of k) rec (here ∙ there)) (told t loaded moved same each)

-- ---- one more

module _ (p : RowParts) (texts : List (List ℕ)) (n : ℕ) (all : List NewTokens) (t : NewTokens)
    (are : (rec : AsmRec) → slice_get (recs_of p) n ≡ Some rec → TellTokens p texts n rec t) (before : AreFirstTokens p texts n all) where
  last_by : (a : ℕ) (r : AsmRec) (s : NewTokens) → slice_get (recs_of p) a ≡ Some r → slice_get (all ++ t ∷ []) a ≡ Some s → (a < n) ⊎ (a ≡ n) → TellTokens p texts a r s
  last_by a r s there is (inl lt) =
      before.each a r s there (sym (get_front all (t ∷ []) a (let l : a < length all = omega (arith, before.long) in l)) ∙ is)
  last_by a r s there is (inr e) =
      let at : a ≡ length all + 0 = omega (arith, before.long) in
      let last : t ≡ s = same_some t s (sym (get_behind all (t ∷ []) 0) ∙ ap (slice_get (all ++ t ∷ [])) (sym at) ∙ is) in
      let one : TellTokens p texts n r t = are r (ap (slice_get (recs_of p)) (sym e) ∙ there) in
      let two : TellTokens p texts a r t = subst (λ (k : ℕ). TellTokens p texts k r t) (sym e) one in
      subst (λ (x : NewTokens). TellTokens p texts a r x) last two

  pub one_more : AreFirstTokens p texts (n + 1) (all ++ t ∷ [])
  one_more = record {
    long = length-append all (t ∷ []) ∙ ap (λ (k : ℕ). k + 1) before.long;
    each = λ a r s there is.
        last_by a r s there is
        (split a n (let lt : a < length (all ++ t ∷ []) = slice_get_within (all ++ t ∷ []) a s is in let l : length (all ++ t ∷ []) ≡ length all + 1 = length-append all (t ∷ []) in omega (arith, lt, l, before.long)));
  }

pub none_first : (p : RowParts) (texts : List (List ℕ)) (all : List NewTokens) → all ≡ [] → AreFirstTokens p texts 0 all
none_first p texts all e = record {
  long = ap length e;
  each = λ a rec t there is. absurd (let lt : a < length all = slice_get_within all a t is in let l : length all ≡ 0 = ap length e in omega (arith, lt, l));
}

-- ---- all

module _ (p : RowParts) (texts : List (List ℕ)) (all : List NewTokens) (are : AreFirstTokens p texts (length (recs_of p)) all) (o : Output) (parts : ArePartsOf o p) (met : AreTextsMet o texts) where
  has_at : (a : ℕ) (rec : AsmRec) → slice_get (recs_of p) a ≡ Some rec → HasTokens o all a rec
  has_at a rec here =
      elim (slice_get_cases all a).1 [
        | inl found ↦ record { new = found.0; there = found.2; are = are.each a rec found.0 here found.2 o parts met }
        | inr none ↦ absurd (let le : length all ≤ a = none.0 in let lt : a < length (recs_of p) = slice_get_within (recs_of p) a rec here in omega (arith, lt, le, are.long))
      ]

  pub all_have : HaveTokens o all
  all_have = λ a rec here. has_at a rec (ap (λ (rs : List AsmRec). slice_get rs a) parts.recs ∙ here)
