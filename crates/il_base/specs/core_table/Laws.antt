-- What holds of the core table, as tests on its types.
use Rattle.std.specs.Prelude.{ℕ, zero, suc, ◌+◌, ◌-◌, ◌==◌, nat_eq, nat_le, Bool, true, false, not, ◌&&◌, ◌||◌, List, [], ◌∷◌, ◌++◌, codes, slice_get, Option, Some, None, if◌then◌else◌}
use Rattle.std.specs.List.{list_any, list_all, starts_with, ends_with}
use Rattle.std.specs.Cmp.Lexicographic.{pointwise}
use Rattle.il_base.specs.declared.element.TheConstants as element
use Rattle.il_base.specs.declared.type_flags.TheConstants as type_flags
use Rattle.il_base.specs.declared.method_flags.TheConstants as method_flags
use Rattle.il_base.specs.Flags.{has_flag}
use Rattle.il_base.specs.declared.world_model.tokens.TheConstants.{FIRST_TYPE_DEF}
use Rattle.il_base.specs.declared.world_model.types.TypeDefRow.{TypeDefRow}
use Rattle.il_base.specs.declared.core_table.names.CoreName.{CoreName}
use Rattle.il_base.specs.declared.core_table.shape.CoreMethod.{CoreMethod}
use Rattle.il_base.specs.declared.core_table.shape.CoreParams.{CoreParams}
use Rattle.il_base.specs.declared.core_table.shape.CoreParams.TheVariants.{Zero, One, Two, Three, Four}
use Rattle.il_base.specs.declared.core_table.shape.CoreSig.{CoreSig}
use Rattle.il_base.specs.declared.core_table.shape.CoreSig.TheVariants as core
use Rattle.il_base.specs.declared.core_table.shape.CoreType.{CoreType}
use Rattle.il_base.specs.declared.core_table.types.TheConstants.{TYPES, METHOD_COUNT}
use Rattle.il_base.specs.declared.core_table.tokens.TheConstants.{OBJECT, VALUE_TYPE, ENUM, ARRAY, RUNTIME_TYPE_HANDLE, RUNTIME_FIELD_HANDLE, EXCEPTION, TYPE, MEMBER_INFO, METHOD_BASE, METHOD_INFO, FIELD_INFO, PROPERTY_INFO, SYSTEM_EXCEPTION, APPLICATION_EXCEPTION, MEMBER_ACCESS_EXCEPTION, MISSING_MEMBER_EXCEPTION, ARGUMENT_EXCEPTION, ARITHMETIC_EXCEPTION}
use Rattle.il_base.specs.core_table.Names.{text_of}
use Rattle.il_base.specs.core_table.Members.{methods_of}

-- ---- names and flags

abbrev pub same_text : List ℕ → List ℕ → Bool
same_text a b = pointwise nat_eq a b

abbrev pub is_called : List ℕ → CoreName → Bool
is_called text n = same_text text (text_of n)

abbrev pub agree : Bool → Bool → Bool
agree a b = if a then b else not b

-- ---- rows

-- The runs begin at these rows, each where the one before ends; the last end past the last rows.
abbrev pub runs_meet : ℕ → ℕ → List TypeDefRow → Bool
runs_meet field method [] = (field == 2) && (method == METHOD_COUNT + 1)
runs_meet field method (t ∷ ts) =
    (t.field_list_first == field) && (t.method_list_first == method) && runs_meet t.field_list_end t.method_list_end ts

-- ---- each once

abbrev pub same_type : CoreType → CoreType → Bool
same_type a b = same_text (text_of a.name) (text_of b.name) && same_text (text_of a.namespace) (text_of b.namespace)

-- a signature's type in numbers (II.23.2.12): an element type is below each token
abbrev pub spelled : CoreSig → List ℕ
spelled (core.Prim code) = code ∷ []
spelled (core.Class token) = token ∷ []
spelled (core.Value token) = token ∷ []
spelled (core.Prims code) = element.SZARRAY ∷ code ∷ []
spelled (core.Classes token) = element.SZARRAY ∷ token ∷ []
spelled (core.MVar n) = element.MVAR ∷ n ∷ []

abbrev pub spelled_all : CoreParams → List ℕ
spelled_all Zero = []
spelled_all (One a) = spelled a
spelled_all (Two a b) = spelled a ++ spelled b
spelled_all (Three a b c) = spelled a ++ spelled b ++ spelled c
spelled_all (Four a b c d) = spelled a ++ spelled b ++ spelled c ++ spelled d

-- name and parameters; no two methods of the core library differ in their return alone
abbrev pub same_method : CoreMethod → CoreMethod → Bool
same_method a b = same_text (text_of a.name) (text_of b.name) && same_text (spelled_all a.params) (spelled_all b.params)

abbrev pub are_types_once : List CoreType → Bool
are_types_once [] = true
are_types_once (t ∷ ts) = not (list_any (same_type t) ts) && are_types_once ts

abbrev pub are_methods_once : List CoreMethod → Bool
are_methods_once [] = true
are_methods_once (m ∷ ms) = not (list_any (same_method m) ms) && are_methods_once ms

abbrev pub has_members_once : CoreType → Bool
has_members_once t = are_methods_once (methods_of t.members)

-- ---- bases

-- the type that a TypeDef token of the core record names
abbrev pub type_at : ℕ → Option CoreType
type_at token = if nat_le FIRST_TYPE_DEF token then slice_get TYPES (token - FIRST_TYPE_DEF) else None

-- a type and its bases, to a depth
abbrev pub chain : ℕ → Option CoreType → List CoreType
chain zero found = []
chain (suc n) None = []
chain (suc n) (Some t) = t ∷ chain n (type_at t.extends)

-- the bases of a type, nearest first
abbrev pub bases_of : CoreType → List CoreType
bases_of t = chain 8 (type_at t.extends)

abbrev pub derives_from : List ℕ → CoreType → Bool
derives_from text t = list_any (λ b. is_called text b.name) (bases_of t)

-- Object, `<Module>` and interfaces have no base (II.22.37)
abbrev pub is_baseless : CoreType → Bool
is_baseless t = is_called (codes "Object") t.name || is_called (codes "<Module>") t.name || has_flag t.flags type_flags.INTERFACE

abbrev pub ends_at_object : CoreType → Bool
ends_at_object t = if is_baseless t then t.extends == 0 else derives_from (codes "Object") t

abbrev pub is_exception_right : CoreType → Bool
is_exception_right t =
    agree (ends_with nat_eq (text_of t.name) (codes "Exception"))
    (is_called (codes "Exception") t.name || derives_from (codes "Exception") t)

-- a value type derives from ValueType; Enum isn't one (II.13)
abbrev pub is_value : CoreType → Bool
is_value t = derives_from (codes "ValueType") t && not (is_called (codes "Enum") t.name)

abbrev pub is_value_right : CoreType → Bool
is_value_right t = agree (is_value t || is_called (codes "String") t.name) (has_flag t.flags type_flags.SEALED && not (has_flag t.flags type_flags.ABSTRACT))

-- the tokens that bases and signatures name, and what their types are called
abbrev pub named_tokens : List (ℕ × List ℕ)
named_tokens =
    (OBJECT, codes "Object")
    ∷ (VALUE_TYPE, codes "ValueType")
    ∷ (ENUM, codes "Enum")
    ∷ (ARRAY, codes "Array")
    ∷ (RUNTIME_TYPE_HANDLE, codes "RuntimeTypeHandle")
    ∷ (RUNTIME_FIELD_HANDLE, codes "RuntimeFieldHandle")
    ∷ (EXCEPTION, codes "Exception")
    ∷ (TYPE, codes "Type")
    ∷ (MEMBER_INFO, codes "MemberInfo")
    ∷ (METHOD_BASE, codes "MethodBase")
    ∷ (METHOD_INFO, codes "MethodInfo")
    ∷ (FIELD_INFO, codes "FieldInfo")
    ∷ (PROPERTY_INFO, codes "PropertyInfo")
    ∷ (SYSTEM_EXCEPTION, codes "SystemException")
    ∷ (APPLICATION_EXCEPTION, codes "ApplicationException")
    ∷ (MEMBER_ACCESS_EXCEPTION, codes "MemberAccessException")
    ∷ (MISSING_MEMBER_EXCEPTION, codes "MissingMemberException")
    ∷ (ARGUMENT_EXCEPTION, codes "ArgumentException")
    ∷ (ARITHMETIC_EXCEPTION, codes "ArithmeticException")
    ∷ []

abbrev pub is_called_at : List ℕ → Option CoreType → Bool
is_called_at text None = false
is_called_at text (Some t) = is_called text t.name

abbrev pub is_named : ℕ × List ℕ → Bool
is_named x = is_called_at x.1 (type_at x.0)

-- ---- flags of methods

abbrev pub begins : CoreMethod → List ℕ → Bool
begins m front = starts_with nat_eq (text_of m.name) front

abbrev pub is_special : CoreMethod → Bool
is_special m =
    agree (begins m (codes "get_") || begins m (codes "op_") || begins m (codes ".")) (has_flag m.flags method_flags.SPECIAL_NAME)
    && agree (begins m (codes ".")) (has_flag m.flags method_flags.RT_SPECIAL_NAME)

abbrev pub is_special_right : CoreType → Bool
is_special_right t = list_all is_special (methods_of t.members)

abbrev pub is_slot : CoreMethod → CoreMethod → Bool
is_slot m slot = has_flag slot.flags method_flags.VIRTUAL && same_method m slot

-- whether a base of the type has a virtual method of this name and these parameters
abbrev pub has_slot : CoreType → CoreMethod → Bool
has_slot t m = list_any (λ b. list_any (is_slot m) (methods_of b.members)) (bases_of t)

abbrev pub is_new : CoreType → CoreMethod → Bool
is_new t m = agree (has_flag m.flags method_flags.VIRTUAL && not (has_slot t m)) (has_flag m.flags method_flags.NEW_SLOT)

abbrev pub is_slot_right : CoreType → Bool
is_slot_right t = list_all (is_new t) (methods_of t.members)
