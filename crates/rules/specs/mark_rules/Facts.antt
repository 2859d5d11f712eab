-- The facts of marking, on items and types, and the rules that derive them: a fact holds if finitely many uses of rules derive it.
use Rattle.std.specs.Prelude.{Bool, List, IsTrue}
use Rattle.std.specs.List.{Contains}
use Rattle.il_base.specs.declared.ids.TypeId.{TypeId}
use Rattle.il_base.specs.declared.ids.Item.{Item}

pub data Fact : Type 0 where
  -- the item is needed
  marked : Item → Fact
  -- an object or a value of the type may be made
  instantiated : TypeId → Fact
  -- reflection may reach the item
  reflected : Item → Fact
  -- the type's name or identity can be seen when the program runs
  shown : TypeId → Fact

-- the facts that hold at the start, and what one fact, two facts or three facts give
pub record Rules : Type 0 where
  pub given : Fact → Bool
  pub one : Fact → List Fact
  pub two : Fact → Fact → List Fact
  pub three : Fact → Fact → Fact → List Fact

-- what the rules derive
pub data Derived (rules : Rules) : Fact → Type 0 where
  start : (f : Fact) → IsTrue (rules.given f) → Derived rules f
  by_one : (a f : Fact) → Derived rules a → Contains (rules.one a) f → Derived rules f
  by_two : (a b f : Fact) → Derived rules a → Derived rules b → Contains (rules.two a b) f → Derived rules f
  by_three : (a b c f : Fact) → Derived rules a → Derived rules b → Derived rules c → Contains (rules.three a b c) f → Derived rules f
