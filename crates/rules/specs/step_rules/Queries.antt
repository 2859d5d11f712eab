-- What a step asks of a world. The answers name no token, row or blob: references are resolved. Types, methods and fields
-- go by their places in the world (`TypeId`, `MethodId` and `FieldId` as numbers); types of definitions are open.
use Rattle.std.specs.Prelude.{ℕ, List, Bool, Option}
use Rattle.il_base.specs.declared.ids.Item.{Item}
use Rattle.il_base.specs.declared.world_model.expr.TypeExpr.{TypeExpr}
use Rattle.il_base.specs.declared.world_model.expr.MethodUse.{MethodUse}
use Rattle.il_base.specs.declared.core_table.names.CoreName.{CoreName}
use Rattle.il_base.specs.declared.cil_values.core_call.CoreCall.{CoreCall}
use Rattle.il_base.specs.declared.cil_values.core_call.MemberKind.{MemberKind}
use Rattle.il_base.specs.declared.cil_values.definition.Method.{Method}
use Rattle.il_base.specs.declared.cil_values.definition.FieldDef.{FieldDef}
use Rattle.il_base.specs.declared.cil_values.definition.PropertyDef.{PropertyDef}
use Rattle.il_base.specs.declared.cil_values.definition.Head.{Head}
use Rattle.il_base.specs.declared.cil_values.layout.Layout.{Layout}
use Rattle.il_base.specs.declared.cil_values.layout.Shape.{Shape}
use Rattle.il_base.specs.declared.cil_values.sought.Sought.{Sought}
use Rattle.rules.specs.declared.type_rules.found_member.FoundMember.{FoundMember}

pub record Queries : Type 0 where
  -- the member of the core library that a method is; None for a method of an input, and for an abstract one
  pub core : ℕ → Option CoreCall
  -- a type of the core library by its name; one that has an element type isn't asked for
  pub known : CoreName → ℕ
  -- None for a method that no type's run holds
  pub method : ℕ → Option Method
  pub field : ℕ → Option FieldDef
  pub head : ℕ → Option Head
  pub shape : TypeExpr → Shape
  -- the cells of an instance of a class: those of the bases first, before these an exception's own
  pub cells : TypeExpr → List Layout
  -- the initializer of a type (II.10.5.3)
  pub starts : ℕ → Option ℕ
  -- the public constructor of a type that takes `this` alone (II.10.5.1)
  pub maker : TypeExpr → Option ℕ
  -- whether a value of the first type can stand for one of the second (I.8.7)
  pub below : TypeExpr → TypeExpr → Bool
  -- The method that a virtual call runs, with the closed type in which it was found (II.12.2). The arguments: the type of the
  -- object, the closed owner of the called method, that method.
  pub answers : TypeExpr → TypeExpr → ℕ → Option MethodUse
  -- a type's text, in UTF-8
  pub text : TypeExpr → List ℕ
  -- a type's own name and its namespace, as reflection gives them, in UTF-8
  pub label : TypeExpr → List ℕ
  pub space : TypeExpr → List ℕ
  -- the type definition that another is nested in (II.22.32)
  pub encloser : ℕ → Option ℕ
  -- the type that a text in UTF-8 names for a method: it is looked for in the method's assembly
  pub find : ℕ → List ℕ → Sought
  -- the members of a kind that reflection finds in a type: all, or those of a name in UTF-8
  pub members : MemberKind → Option (List ℕ) → TypeExpr → List FoundMember
  -- a member's name, in UTF-8
  pub title : Item → List ℕ
  pub property : ℕ → Option PropertyDef
  -- the nearest type of the core library among a type and its bases
  pub kin : TypeExpr → Option CoreName
  -- the slots of Object that the core library calls: ToString() and Equals(object)
  pub to_string : ℕ
  pub equals : ℕ
