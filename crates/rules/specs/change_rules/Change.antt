-- A change of numbers: the new number of each type, method and field, and which of them are kept.
use Rattle.std.specs.Prelude.{◌≡◌, ℕ, Bool}

-- the new numbers of types, methods and fields
pub record Rho : Type 0 where
  pub typ : ℕ → ℕ
  pub method : ℕ → ℕ
  pub field : ℕ → ℕ

-- `back` undoes `rho`, so no two numbers become one
pub record Undone (back rho : Rho) : Type 0 where
  pub typ : (t : ℕ) → back.typ (rho.typ t) ≡ t
  pub method : (m : ℕ) → back.method (rho.method m) ≡ m
  pub field : (f : ℕ) → back.field (rho.field f) ≡ f

-- which types, methods and fields are kept; those of the core library always are
pub record Keep : Type 0 where
  pub typ : ℕ → Bool
  pub method : ℕ → Bool
  pub field : ℕ → Bool
  -- a type of which there can be objects
  pub made : ℕ → Bool
  -- a type whose text can be printed
  pub shown : ℕ → Bool
  -- a type whose initializer an access can begin
  pub begun : ℕ → Bool
  -- a method that can be called: any but a member of the core library that searches
  pub called : ℕ → Bool

pub record Change : Type 0 where
  pub rho : Rho
  pub back : Rho
  pub undone : Undone back rho
  pub keep : Keep
