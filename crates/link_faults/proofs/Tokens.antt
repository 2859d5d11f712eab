-- Rows that tokens of TypeDef name.
use Rattle.std.proofs.Common.{◌≡◌, ℕ, zero, suc, ◌/◌, ◌%◌, ◌<◌, ◌==◌, Bool, true, false, Some, None, refl, arith}
use Rattle.std.specs.Prelude.{if◌then◌else◌}
use Rattle.std.proofs.lemmas.Bool.{eqb-true, eq-eqb, ne_eqb}
use Rattle.std.proofs.lemmas.Bool.Decides.{same_from_decides, Decides-eqb, Decides-like}
use Rattle.il_base.specs.world_model.Tokens.{token_of, index_from, index_in}

-- what a token of TypeDef is that names a row
pub record Names (token k : ℕ) : Type 0 where
  pub is : token ≡ token_of 0x02 (suc k)
  pub short : suc k < 16777216

names_by : (token k row : ℕ) (b : Bool) → (token / 16777216 == 2) ≡ b → token % 16777216 ≡ row → (if b then index_from row else None) ≡ Some k → Names token k
names_by token k zero true e f h = cc
names_by token k (suc row) true e f h =
    let g : row ≡ k = cc in
    let t : token / 16777216 ≡ 2 = eqb-true (token / 16777216) 2 e in
    record { is = omega arith; short = omega arith }
names_by token k row false e f h = cc

pub named : (token k : ℕ) → index_in 0x02 token ≡ Some k → Names token k
named token k h = names_by token k (token % 16777216) (token / 16777216 == 2) refl refl h

pub index_of : (token k : ℕ) → Names token k → index_in 0x02 token ≡ Some k
index_of token k n =
    let e : token / 16777216 ≡ 2 = omega arith in
    let f : token % 16777216 ≡ suc k = omega arith in
    rw (eq-eqb (token / 16777216) 2 e, f) refl

-- a token of the row k is that of the row n
pub token_test : (token n k : ℕ) → index_in 0x02 token ≡ Some n → (token == token_of 0x02 (suc k)) ≡ (n == k)
token_test token n k h =
    let s = named token n h in
    same_from_decides (token == token_of 0x02 (suc k)) (n == k)
    (Decides-like _ (λ e. omega arith) (λ e. omega arith) (Decides-eqb token (token_of 0x02 (suc k))))
    (Decides-eqb n k)

pub no_token : (token k : ℕ) → index_in 0x02 token ≡ None → suc k < 16777216 → (token == token_of 0x02 (suc k)) ≡ false
no_token token k h lt =
    ne_eqb token (token_of 0x02 (suc k)) (λ e. let f = index_of token k (record { is = e; short = lt }) in cc)
