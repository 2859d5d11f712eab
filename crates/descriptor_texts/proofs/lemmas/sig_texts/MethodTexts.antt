-- Parts of a method's text, one after the other.
use Rattle.std.proofs.Common.{◌≡◌, ℕ, List, [], ◌++◌, codes, refl}

pub method_put : (ret name params : List ℕ) → (((([] ++ ret) ++ codes " ") ++ name) ++ codes "(") ++ params ++ codes ")" ≡ ret ++ codes " " ++ name ++ codes "(" ++ params ++ codes ")"
method_put ret name params = refl
