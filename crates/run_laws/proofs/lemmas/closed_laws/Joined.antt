-- The laws on rows, methods and calls, joined.
use Rattle.std.proofs.Common.{List, Option, sym, ap, ◌∙◌}
use Rattle.std.specs.Prelude.{ℕ, IsTrue}
use Rattle.std.proofs.lemmas.Bool.{or_left, or_right}
use Rattle.il_base.specs.declared.world_model.expr.TypeExpr.{TypeExpr}
use Rattle.il_base.specs.declared.world_model.record.AsmRec.{AsmRec}
use Rattle.il_base.specs.declared.core_table.names.CoreName.TheVariants as core
use Rattle.rules.specs.link_rules.Linked.{assemblies}
use Rattle.rules.specs.type_rules.Slots.{is_virtual}
use Rattle.il_base.specs.declared.cil_values.definition.Method.{Method}
use Rattle.rules.specs.view_rules.Methods.{method_query}
use Rattle.rules.specs.change_rules.Keeps.{is_of_owner}
use Rattle.rules.specs.world_change_rules.Places.{method_number}
use Rattle.run_laws.proofs.lemmas.query_laws.Starts.{starts_there}
use Rattle.run_laws.proofs.lemmas.marked_laws.Flags.{called_is, no_search}
use Rattle.run_laws.proofs.lemmas.marked_laws.Searches.{unnamed_searches_nothing}
use Rattle.run_laws.proofs.lemmas.marked_laws.Joined.{rows_kept, implied_kept}
use Rattle.run_laws.proofs.lemmas.marked_laws.Impls.{all_impls_kept}
use Rattle.run_laws.proofs.lemmas.marked_code_laws.Methods.{methods_kept}
use Rattle.run_laws.specs.marked_call_laws.Laws.{IsOwned}
use Rattle.run_laws.proofs.lemmas.marked_call_laws.Calls.{all_run, all_find}
use Rattle.run_laws.specs.closed_laws.Laws.{MarkedClosed}
use Rattle.run_laws.proofs.lemmas.closed_laws.Core.{known_kept, to_string_virtual, equals_virtual, method_kept}
use Rattle.run_laws.proofs.lemmas.closed_laws.Values.{values_made}

owned : (recs : List AsmRec) (owner : TypeExpr) (n : ℕ) → IsTrue (is_of_owner (method_query recs n) owner) → IsOwned recs owner n
owned recs owner n h f is = sym (ap (λ (o : Option Method). is_of_owner o owner) is) ∙ h

pub all_closed : MarkedClosed
all_closed inputs entry roots has sound m marked =
    let recs : List AsmRec = assemblies inputs in
    let rows = rows_kept inputs entry roots has sound m marked.ends marked.nests in
    let implied = implied_kept inputs entry roots has sound m in
    record {
      rows = rows;
      implied = implied;
      impls = all_impls_kept inputs entry roots has sound m;
      methods = λ n f h is. methods_kept inputs entry roots has sound m marked.methods marked.fields marked.reads marked.follows n f h is;
      searches_nothing = λ n c h is. no_search recs has n c h is;
      slots_called = λ at d is v. called_is recs has (method_number recs at) (unnamed_searches_nothing inputs at d (or_left (is_virtual d) _ v) is);
      starts_called = λ at n is.
          let d = starts_there recs at n is in
          called_is recs has (method_number recs n) (unnamed_searches_nothing inputs n d.0 (or_right (is_virtual d.0) _ d.2) d.1);
      runs = λ e owner n f made kept h own is. all_run inputs entry roots has sound marked.few m rows implied e owner n made kept h (owned recs owner n own) f is;
      finds = λ e owner n s f made kept h own is face found. all_find inputs entry roots has sound marked.few m rows implied e owner n made kept h (owned recs owner n own) s f is face found;
      values = values_made recs entry roots has m;
      known = λ n asked. known_kept inputs entry roots has m n;
      to_string = method_kept inputs entry roots has m core.ToString to_string_virtual;
      equals = method_kept inputs entry roots has m core.Equals equals_virtual;
    }
