-- Texts put at the end, one after the other.
use Rattle.std.proofs.Common.{◌≡◌, ℕ, List, [], ◌∷◌, ◌++◌, refl, append_assoc}
use Rattle.std.specs.Prelude.{codes}
use Rattle.std.proofs.lemmas.List.{append-nil}
use Rattle.il_base.specs.declared.world_model.record.AsmRec.{AsmRec}
use Rattle.rules.specs.link_rules.Faults.{own_name}
use Rattle.rules.specs.mark_rules.KeepList.{line, hex_8}
use Rattle.keep_lists.specs.Lists.{high_digits, low_digits}

pub none_more : {A : Type 0} (out : List A) → out ++ [] ≡ out
none_more out = append-nil out

pub eight_digits : (out : List ℕ) (n : ℕ) → (out ++ high_digits n) ++ low_digits n ≡ out ++ hex_8 n
eight_digits out n = append_assoc out (high_digits n) (low_digits n)

-- `:` is 58, a blank 32, a line feed 10
pub line_put : (out : List ℕ) (rec : AsmRec) (token : ℕ) (kind text : List ℕ)
    → (((((((out ++ own_name rec) ++ 58 ∷ []) ++ hex_8 token) ++ 32 ∷ []) ++ kind) ++ 32 ∷ []) ++ text) ++ 10 ∷ [] ≡ out ++ line rec token kind text
line_put out rec token kind text = simp append_assoc

-- a full stop is 46
pub member_put : (owner name : List ℕ) → ([] ++ owner ++ 46 ∷ []) ++ name ≡ owner ++ codes "." ++ name
member_put owner name = refl

pub five_put : {A : Type 0} (out a b c d e : List A) → ((((out ++ a) ++ b) ++ c) ++ d) ++ e ≡ out ++ (a ++ b ++ c ++ d ++ e)
five_put out a b c d e = simp append_assoc
