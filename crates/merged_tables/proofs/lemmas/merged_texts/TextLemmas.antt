-- Texts by their tokens.
use Rattle.std.proofs.Common.{◌≡◌, ℕ, suc, ◌-◌, ◌≤◌, ◌<◌, Bool, true, false, List, [], ◌∷◌, length, drop, Option, Some, None, get_or, arith, refl, sym, ap, ◌∙◌, map}
use Rattle.std.proofs.Math.Seq.{drop-cons, drop-length}
use Rattle.std.specs.Option.{option_or, option_map}
use Rattle.std.proofs.lemmas.List.{drop_all}
use Rattle.std.specs.Prelude.{nat_eq, find, if◌then◌else◌}
use Rattle.il_base.specs.declared.world_model.record.UserText.{UserText}
use Rattle.il_base.specs.declared.world_model.record.AsmRec.{AsmRec}
use Rattle.rules.specs.link_rules.Cycles.{listed}
use Rattle.rules.specs.mark_rules.Bodies.{is_text_of}
use Rattle.rules.specs.merge_rules.Refs.{first_or}
use Rattle.rules.specs.merge_rules.Moved.{texts_named}
use Rattle.merged_tables.specs.merged_texts.Texts.{text_under, first_token}

-- the first text under a token
abbrev pub text_in : ℕ → List UserText → Option (List ℕ)
text_in token [] = None
text_in token (t ∷ ts) = if nat_eq t.token token then Some t.text else text_in token ts

abbrev found : ℕ → List UserText → Option (List ℕ)
found token ts = option_map (λ (t : UserText). t.text) (find (is_text_of token) ts)

text_first : (token : ℕ) (t : UserText) (ts : List UserText) (b : Bool) → nat_eq t.token token ≡ b → text_in token ts ≡ found token ts → text_in token (t ∷ ts) ≡ found token (t ∷ ts)
text_first token t ts true e h = rw e refl
text_first token t ts false e h = rw e h

text_found : (token : ℕ) (ts : List UserText) → text_in token ts ≡ found token ts
text_found token [] = refl
text_found token (t ∷ ts) = text_first token t ts (nat_eq t.token token) refl (text_found token ts)

or_none : {A : Type 0} (o : Option A) → option_or o None ≡ o
or_none None = refl
or_none (Some x) = refl

-- at the end of the loop over the texts of an assembly
pub texts_all : (rec : AsmRec) (token : ℕ) (o : Option (List ℕ)) (i : ℕ) (texts : List UserText) → length texts ≤ i → texts ≡ rec.user
    → option_or o (text_in token (drop i texts)) ≡ text_in token texts → o ≡ text_under rec token
texts_all rec token o i texts past same e =
    sym (or_none o) ∙ ap (λ (ts : List UserText). option_or o (text_in token ts)) (sym (drop_all i texts past)) ∙ e ∙ ap (text_in token) same ∙ text_found token rec.user

-- ---- as lists

pub named_under : (rec : AsmRec) (token : ℕ) → listed (text_under rec token) ≡ texts_named rec token
named_under rec token = by_case (find (is_text_of token) rec.user)
  where
    by_case : (o : Option UserText) → listed (option_map (λ (t : UserText). t.text) o) ≡ map (λ (t : UserText). t.text) (listed o)
    by_case None = refl
    by_case (Some t) = refl

-- ---- tokens

token_case : (number : List ℕ → ℕ) (token : ℕ) (t : UserText) (ts : List UserText) (b : Bool) → nat_eq t.token token ≡ b
    → first_token number token ts ≡ first_or (map number (map (λ (u : UserText). u.text) (listed (find (is_text_of token) ts)))) 0
    → first_token number token (t ∷ ts) ≡ first_or (map number (map (λ (u : UserText). u.text) (listed (find (is_text_of token) (t ∷ ts))))) 0
token_case number token t ts true e h = rw e refl
token_case number token t ts false e h = rw e h

pub token_found : (number : List ℕ → ℕ) (token : ℕ) (ts : List UserText)
    → first_token number token ts ≡ first_or (map number (map (λ (u : UserText). u.text) (listed (find (is_text_of token) ts)))) 0
token_found number token [] = refl
token_found number token (t ∷ ts) = token_case number token t ts (nat_eq t.token token) refl (token_found number token ts)

pub token_past : (number : List ℕ → ℕ) (token : ℕ) (ts : List UserText) → first_token number token (drop (length ts) ts) ≡ 0
token_past number token ts = ap (first_token number token) (drop-length ts)

-- with the text before
pub token_before : (number : List ℕ → ℕ) (token : ℕ) (ts : List UserText) (m n : ℕ) (t : UserText) → n ≡ suc m → m < length ts → t ≡ get_or ts m t
    → first_token number token (drop m ts) ≡ (if nat_eq t.token token then number t.text else first_token number token (drop n ts))
token_before number token ts m n t e h is = ap (first_token number token) (drop-cons ts m t h) ∙ rw (← is, e) refl

pub token_step : (number : List ℕ → ℕ) (q : ℕ) (ts : List UserText) (n : ℕ) (t : UserText) (new old token : ℕ) → 0 < n → n ≤ length ts → t ≡ get_or ts (n - 1) t
    → token ≡ number t.text → new ≡ (if nat_eq t.token q then token else old) → old ≡ first_token number q (drop n ts) → new ≡ first_token number q (drop (n - 1) ts)
token_step number q ts n t new old token pos le is made set before =
    let e : n ≡ suc (n - 1) = omega arith in
    let h : n - 1 < length ts = omega arith in
    set ∙ (λ i. if nat_eq t.token q then made i else before i) ∙ sym (token_before number q ts (n - 1) n t e h is)
