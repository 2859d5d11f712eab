-- Numbers that were written are read again.
use Rattle.std.proofs.Common.{◌≡◌, ℕ, ◌+◌, ◌^◌, ◌<◌, ◌≤◌, Bool, true, cond, leb, List, ◌∷◌, ◌++◌, length, drop, Option, Some, None, Ok, inl, inr, refl, sym, ap, ap₂, ◌∙◌, arith}
use Rattle.std.proofs.lemmas.Bool.{cases_lt, le-leb, lt-leb}
use Rattle.std.proofs.lemmas.List.{length-append, drop-drop, drop_at}
use Rattle.byteorder.specs.Endian.{little_bytes, little_number}
use Rattle.byteorder.specs.Numbers.{little_number-reads_back, length-bytes_low_first}
use Rattle.il_base.specs.Bytes.{number_at}
use Rattle.il_base.specs.declared.outside.TheConstants.{BODY}
use Rattle.il_base.specs.body_grammar.Faults.{need, fault}
use Rattle.il_base.specs.body_grammar.Bodies.{field_at}

pub number_front : (k n : ℕ) (rest : List ℕ) → n < 256 ^ k → number_at k (little_bytes k n ++ rest) 0 ≡ Some n
unfolding number_at
number_front k n rest lt =
    let long : leb (0 + k) (length (little_bytes k n ++ rest)) ≡ true = le-leb _ _ (omega (arith, length-append (little_bytes k n) rest, length-bytes_low_first 0 k n)) in
    rw (long, little_number-reads_back k n rest lt) refl

pub byte_front : (b : ℕ) (rest : List ℕ) → number_at 1 (b ∷ rest) 0 ≡ Some b
unfolding number_at
byte_front b rest =
    let long : leb (0 + 1) (length (b ∷ rest)) ≡ true = le-leb _ _ (omega arith) in
    rw long (ap (λ (n : ℕ). Some n) (omega arith))

leb-shift : (a m n : ℕ) → leb (a + m) (a + n) ≡ leb m n
leb-shift a m n =
    elim (cases_lt n m) [
      | inl lt ↦ lt-leb (a + m) (a + n) (omega arith) ∙ sym (lt-leb m n lt)
      | inr le ↦ le-leb (a + m) (a + n) (omega arith) ∙ sym (le-leb m n le)
    ]

-- what stands before doesn't matter
pub number_shift : (k at j : ℕ) (before bs : List ℕ) → length before ≡ at → number_at k (before ++ bs) (at + j) ≡ number_at k bs j
unfolding number_at
number_shift k at j before bs len =
    let long : leb (at + j + k) (length (before ++ bs)) ≡ leb (j + k) (length bs) =
    ap₂ (λ (m n : ℕ). leb m n) (omega arith) (length-append before bs ∙ ap (λ (n : ℕ). n + length bs) len) ∙ leb-shift at (j + k) (length bs) in
    let rest : drop (at + j) (before ++ bs) ≡ drop j bs = sym (drop-drop j at (before ++ bs)) ∙ ap (λ (x : List ℕ). drop j x) (drop_at before bs at len) in
    ap₂ (λ (b : Bool) (x : List ℕ). cond b (Some (little_number k x)) None) long rest

-- the field of a number after what stands before and a part in between
pub field_in : (k n at j : ℕ) (before mid after : List ℕ) → length before ≡ at → length mid ≡ j → n < 256 ^ k
    → field_at k (before ++ (mid ++ (little_bytes k n ++ after))) (at + j) ≡ Ok n
field_in k n at j before mid after len lens lt =
    let bs : List ℕ = before ++ (mid ++ (little_bytes k n ++ after)) in
    let found : number_at k bs (at + j) ≡ Some n =
    number_shift k at j before (mid ++ (little_bytes k n ++ after)) len
    ∙ ap (λ (x : ℕ). number_at k (mid ++ (little_bytes k n ++ after)) x) (omega arith)
    ∙ number_shift k j 0 mid (little_bytes k n ++ after) lens ∙ number_front k n after lt in
    ap (λ (o : Option ℕ). need o (fault (length bs) BODY)) found

pub byte_in : (b at j : ℕ) (before mid after : List ℕ) → length before ≡ at → length mid ≡ j
    → field_at 1 (before ++ (mid ++ (b ∷ after))) (at + j) ≡ Ok b
byte_in b at j before mid after len lens =
    let bs : List ℕ = before ++ (mid ++ (b ∷ after)) in
    let found : number_at 1 bs (at + j) ≡ Some b =
    number_shift 1 at j before (mid ++ (b ∷ after)) len
    ∙ ap (λ (x : ℕ). number_at 1 (mid ++ (b ∷ after)) x) (omega arith)
    ∙ number_shift 1 j 0 mid (b ∷ after) lens ∙ byte_front b after in
    ap (λ (o : Option ℕ). need o (fault (length bs) BODY)) found

-- a number of so many bytes, whatever they are
pub field_there : (k at j : ℕ) (before mid rest : List ℕ) → length before ≡ at → length mid ≡ j → k ≤ length rest
    → field_at k (before ++ (mid ++ rest)) (at + j) ≡ Ok (little_number k rest)
unfolding number_at
field_there k at j before mid rest len lens enough =
    let bs : List ℕ = before ++ (mid ++ rest) in
    let long : leb (0 + k) (length rest) ≡ true = le-leb (0 + k) (length rest) (omega arith) in
    let front : number_at k rest 0 ≡ Some (little_number k rest) = ap (λ (b : Bool). cond b (Some (little_number k rest)) None) long in
    let found : number_at k bs (at + j) ≡ Some (little_number k rest) =
    number_shift k at j before (mid ++ rest) len
    ∙ ap (λ (x : ℕ). number_at k (mid ++ rest) x) (omega arith)
    ∙ number_shift k j 0 mid rest lens ∙ front in
    ap (λ (o : Option ℕ). need o (fault (length bs) BODY)) found
