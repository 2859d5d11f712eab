use Rattle.std.proofs.Common.{[], refl}
use Rattle.il_base.specs.declared.cil_values.core_call.CoreCall.TheVariants as core
use Rattle.rules.specs.step_rules.Core.{simple}
use Rattle.cil_core.proofs.Turned.{turned, turned_ok}
use Rattle.cil_core.proofs.members.simple.Goals as goal

pub returns-in-Halts : goal.returns-in-Halts
unfolding simple
returns-in-Halts g c =
    turned c.halt.result c.args.st.now c.args.st.now c.args.printed.now.items [] (g.Q.Answers.queries c.args.q.now) c.args.member core.Halts c.args.args.now c.in-Halts.is c.requires c.halt.ensures

pub returns-in-Idle : goal.returns-in-Idle
unfolding simple
returns-in-Idle g c =
    turned c.idle.result c.args.st.now c.args.st.now c.args.printed.now.items [] (g.Q.Answers.queries c.args.q.now) c.args.member core.Idle c.args.args.now c.in-Idle.is c.requires c.idle.ensures

pub returns-in-IsObject : goal.returns-in-IsObject
unfolding simple
returns-in-IsObject g c =
    turned c.same.result c.args.st.now c.args.st.now c.args.printed.now.items [] (g.Q.Answers.queries c.args.q.now) c.args.member core.IsObject c.args.args.now c.in-IsObject.is c.requires c.same.ensures

pub returns-in-SameReference : goal.returns-in-SameReference
unfolding simple
returns-in-SameReference g c =
    turned c.same-in-SameReference.result c.args.st.now c.args.st.now c.args.printed.now.items [] (g.Q.Answers.queries c.args.q.now) c.args.member core.SameReference c.args.args.now c.in-SameReference.is c.requires c.same-in-SameReference.ensures

pub returns-in-NumberText : goal.returns-in-NumberText
unfolding simple
returns-in-NumberText g c =
    turned_ok c.number_text.result c.args.st.now c.number_text.new.st c.args.printed.now.items [] (g.Q.Answers.queries c.args.q.now) c.args.member (core.NumberText c.in-NumberText.code) c.args.args.now c.in-NumberText.is c.requires c.number_text.ensures

pub returns-in-NumberIs : goal.returns-in-NumberIs
unfolding simple
returns-in-NumberIs g c =
    turned c.number_is.result c.args.st.now c.args.st.now c.args.printed.now.items [] (g.Q.Answers.queries c.args.q.now) c.args.member (core.NumberIs c.in-NumberIs.code) c.args.args.now c.in-NumberIs.is c.requires c.number_is.ensures

pub returns-in-IntEquals : goal.returns-in-IntEquals
unfolding simple
returns-in-IntEquals g c =
    turned c.int_equals.result c.args.st.now c.args.st.now c.args.printed.now.items [] (g.Q.Answers.queries c.args.q.now) c.args.member core.IntEquals c.args.args.now c.in-IntEquals.is c.requires c.int_equals.ensures

pub returns-in-IntCompare : goal.returns-in-IntCompare
unfolding simple
returns-in-IntCompare g c =
    turned c.int_compare.result c.args.st.now c.args.st.now c.args.printed.now.items [] (g.Q.Answers.queries c.args.q.now) c.args.member core.IntCompare c.args.args.now c.in-IntCompare.is c.requires c.int_compare.ensures

pub returns-in-StringLength : goal.returns-in-StringLength
unfolding simple
returns-in-StringLength g c =
    turned_ok c.string_length.result c.args.st.now c.args.st.now c.args.printed.now.items [] (g.Q.Answers.queries c.args.q.now) c.args.member core.StringLength c.args.args.now c.in-StringLength.is c.requires c.string_length.ensures

pub returns-in-StringConcat : goal.returns-in-StringConcat
unfolding simple
returns-in-StringConcat g c =
    turned_ok c.string_concat.result c.args.st.now c.string_concat.new.st c.args.printed.now.items [] (g.Q.Answers.queries c.args.q.now) c.args.member core.StringConcat c.args.args.now c.in-StringConcat.is c.requires c.string_concat.ensures

pub returns-in-StringSame : goal.returns-in-StringSame
unfolding simple
returns-in-StringSame g c =
    turned c.string_same.result c.args.st.now c.args.st.now c.args.printed.now.items [] (g.Q.Answers.queries c.args.q.now) c.args.member core.StringSame c.args.args.now c.in-StringSame.is c.requires c.string_same.ensures

pub returns-in-StringOther : goal.returns-in-StringOther
unfolding simple
returns-in-StringOther g c =
    turned c.string_other.result c.args.st.now c.args.st.now c.args.printed.now.items [] (g.Q.Answers.queries c.args.q.now) c.args.member core.StringOther c.args.args.now c.in-StringOther.is c.requires c.string_other.ensures

pub returns-in-StringIs : goal.returns-in-StringIs
unfolding simple
returns-in-StringIs g c =
    turned c.string_is.result c.args.st.now c.args.st.now c.args.printed.now.items [] (g.Q.Answers.queries c.args.q.now) c.args.member core.StringIs c.args.args.now c.in-StringIs.is c.requires c.string_is.ensures

pub returns-in-StringItself : goal.returns-in-StringItself
unfolding simple
returns-in-StringItself g c =
    turned_ok c.string_itself.result c.args.st.now c.args.st.now c.args.printed.now.items [] (g.Q.Answers.queries c.args.q.now) c.args.member core.StringItself c.args.args.now c.in-StringItself.is c.requires c.string_itself.ensures

pub returns-in-StringIndex : goal.returns-in-StringIndex
unfolding simple
returns-in-StringIndex g c =
    turned_ok c.string_index.result c.args.st.now c.args.st.now c.args.printed.now.items [] (g.Q.Answers.queries c.args.q.now) c.args.member core.StringIndex c.args.args.now c.in-StringIndex.is c.requires c.string_index.ensures

pub returns-in-StringIsEmpty : goal.returns-in-StringIsEmpty
unfolding simple
returns-in-StringIsEmpty g c =
    turned c.string_is_empty.result c.args.st.now c.args.st.now c.args.printed.now.items [] (g.Q.Answers.queries c.args.q.now) c.args.member core.StringIsEmpty c.args.args.now c.in-StringIsEmpty.is c.requires c.string_is_empty.ensures

pub returns-in-StringCompare : goal.returns-in-StringCompare
unfolding simple
returns-in-StringCompare g c =
    turned c.string_compare.result c.args.st.now c.args.st.now c.args.printed.now.items [] (g.Q.Answers.queries c.args.q.now) c.args.member core.StringCompare c.args.args.now c.in-StringCompare.is c.requires c.string_compare.ensures

pub returns-in-ArrayLength : goal.returns-in-ArrayLength
unfolding simple
returns-in-ArrayLength g c =
    turned_ok c.array_length.result c.args.st.now c.args.st.now c.args.printed.now.items [] (g.Q.Answers.queries c.args.q.now) c.args.member core.ArrayLength c.args.args.now c.in-ArrayLength.is c.requires c.array_length.ensures

pub returns-in-ReadLine : goal.returns-in-ReadLine
unfolding simple
returns-in-ReadLine g c =
    turned_ok c.read_line.result c.args.st.now c.read_line.new.st c.args.printed.now.items [] (g.Q.Answers.queries c.args.q.now) c.args.member core.ReadLine c.args.args.now c.in-ReadLine.is c.requires c.read_line.ensures

pub returns-in-ReadUnit : goal.returns-in-ReadUnit
unfolding simple
returns-in-ReadUnit g c =
    turned c.read_unit.result c.args.st.now c.read_unit.new.st c.args.printed.now.items [] (g.Q.Answers.queries c.args.q.now) c.args.member core.ReadUnit c.args.args.now c.in-ReadUnit.is c.requires c.read_unit.ensures

pub returns-in-ExceptionPlain : goal.returns-in-ExceptionPlain
unfolding simple
returns-in-ExceptionPlain g c =
    turned c.idle-in-ExceptionPlain.result c.args.st.now c.args.st.now c.args.printed.now.items [] (g.Q.Answers.queries c.args.q.now) c.args.member core.ExceptionPlain c.args.args.now c.in-ExceptionPlain.is c.requires c.idle-in-ExceptionPlain.ensures

pub returns-in-Prints : goal.returns-in-Prints
unfolding simple
returns-in-Prints g c =
    turned_ok c.print.result c.args.st.now c.args.st.now c.print.new.printed.items c.print.new.printed.items (g.Q.Answers.queries c.args.q.now) c.args.member (core.Prints c.in-Prints.line c.in-Prints.kind) c.args.args.now c.in-Prints.is refl c.print.ensures

pub returns-in-PrintsLineEnd : goal.returns-in-PrintsLineEnd
unfolding simple
returns-in-PrintsLineEnd g c =
    turned_ok c.line_end.result c.args.st.now c.args.st.now c.line_end.new.printed.items c.line_end.new.printed.items (g.Q.Answers.queries c.args.q.now) c.args.member core.PrintsLineEnd c.args.args.now c.in-PrintsLineEnd.is refl c.line_end.ensures

pub returns-in-TypeFromHandle : goal.returns-in-TypeFromHandle
unfolding simple
returns-in-TypeFromHandle g c =
    turned_ok c.type_from_handle.result c.args.st.now c.type_from_handle.new.st c.args.printed.now.items [] (g.Q.Answers.queries c.args.q.now) c.args.member core.TypeFromHandle c.args.args.now c.in-TypeFromHandle.is c.requires c.type_from_handle.ensures

pub returns-in-TypeSame : goal.returns-in-TypeSame
unfolding simple
returns-in-TypeSame g c =
    turned c.same-in-TypeSame.result c.args.st.now c.args.st.now c.args.printed.now.items [] (g.Q.Answers.queries c.args.q.now) c.args.member core.TypeSame c.args.args.now c.in-TypeSame.is c.requires c.same-in-TypeSame.ensures

pub returns-in-TypeOther : goal.returns-in-TypeOther
unfolding simple
returns-in-TypeOther g c =
    turned c.type_other.result c.args.st.now c.args.st.now c.args.printed.now.items [] (g.Q.Answers.queries c.args.q.now) c.args.member core.TypeOther c.args.args.now c.in-TypeOther.is c.requires c.type_other.ensures

pub returns-in-TypeIs : goal.returns-in-TypeIs
unfolding simple
returns-in-TypeIs g c =
    turned c.same-in-TypeIs.result c.args.st.now c.args.st.now c.args.printed.now.items [] (g.Q.Answers.queries c.args.q.now) c.args.member core.TypeIs c.args.args.now c.in-TypeIs.is c.requires c.same-in-TypeIs.ensures

pub returns-in-TypeIsArray : goal.returns-in-TypeIsArray
unfolding simple
returns-in-TypeIsArray g c =
    turned c.type_is_array.result c.args.st.now c.args.st.now c.args.printed.now.items [] (g.Q.Answers.queries c.args.q.now) c.args.member core.TypeIsArray c.args.args.now c.in-TypeIsArray.is c.requires c.type_is_array.ensures
