-- Pieces that are put one after another.
use Rattle.std.proofs.Common.{◌≡◌, ℕ, List, ◌++◌, Result, Ok, Err, OnOk, ap, ◌∙◌, append_assoc}
use Rattle.rules.specs.file_layout.Bytes.{word}

-- what holds after a call that succeeds
pub then_ok : {A E : Type 0} (P Q : Type 0) (r : Result A E) → (P → Q) → OnOk r P → OnOk r Q
then_ok P Q (Ok x) f h = f h
then_ok P Q (Err e) f h = h

pub two : (a0 a1 a2 x1 x2 : List ℕ) → a1 ≡ a0 ++ x1 → a2 ≡ a1 ++ x2 → a2 ≡ a0 ++ (x1 ++ x2)
two a0 a1 a2 x1 x2 e1 e2 = e2 ∙ ap (λ (a : List ℕ). a ++ x2) e1 ∙ append_assoc a0 x1 x2

pub three : (a0 a1 a2 a3 x1 x2 x3 : List ℕ) → a1 ≡ a0 ++ x1 → a2 ≡ a1 ++ x2 → a3 ≡ a2 ++ x3 → a3 ≡ a0 ++ (x1 ++ x2 ++ x3)
three a0 a1 a2 a3 x1 x2 x3 e1 e2 e3 = two a0 a2 a3 (x1 ++ x2) x3 (two a0 a1 a2 x1 x2 e1 e2) e3

pub four : (a0 a1 a2 a3 a4 x1 x2 x3 x4 : List ℕ) → a1 ≡ a0 ++ x1 → a2 ≡ a1 ++ x2 → a3 ≡ a2 ++ x3 → a4 ≡ a3 ++ x4 → a4 ≡ a0 ++ (x1 ++ x2 ++ x3 ++ x4)
four a0 a1 a2 a3 a4 x1 x2 x3 x4 e1 e2 e3 e4 = two a0 a3 a4 (x1 ++ x2 ++ x3) x4 (three a0 a1 a2 a3 x1 x2 x3 e1 e2 e3) e4

pub five : (a0 a1 a2 a3 a4 a5 x1 x2 x3 x4 x5 : List ℕ) → a1 ≡ a0 ++ x1 → a2 ≡ a1 ++ x2 → a3 ≡ a2 ++ x3 → a4 ≡ a3 ++ x4 → a5 ≡ a4 ++ x5
    → a5 ≡ a0 ++ (x1 ++ x2 ++ x3 ++ x4 ++ x5)
five a0 a1 a2 a3 a4 a5 x1 x2 x3 x4 x5 e1 e2 e3 e4 e5 = two a0 a4 a5 (x1 ++ x2 ++ x3 ++ x4) x5 (four a0 a1 a2 a3 a4 x1 x2 x3 x4 e1 e2 e3 e4) e5

-- three pieces that were put as one
pub apart : (xs a b c : List ℕ) → xs ++ (a ++ b ++ c) ≡ xs ++ a ++ b ++ c
apart xs a b c = simp append_assoc

-- the bytes of a number that is known by another term
pub as_word : (a b : List ℕ) (n m : ℕ) → n ≡ m → b ≡ a ++ word n → b ≡ a ++ word m
as_word a b n m e h = h ∙ ap (λ (k : ℕ). a ++ word k) e
