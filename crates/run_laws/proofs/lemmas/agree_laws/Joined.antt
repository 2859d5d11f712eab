-- The laws on each question, joined.
use Rattle.std.proofs.Common.{◌≡◌, ℕ, Bool, List, Some, refl, subst}
use Rattle.std.specs.Prelude.{IsTrue}
use Rattle.std.specs.Option.{option_and_then}
use Rattle.std.specs.Cmp.{first_so}
use Rattle.std.proofs.lemmas.Bool.{and_from}
use Rattle.il_base.specs.declared.world_model.expr.TypeExpr.{TypeExpr}
use Rattle.il_base.specs.declared.world_model.record.AsmRec.{AsmRec}
use Rattle.il_base.specs.declared.core_table.names.CoreName.TheVariants as core
use Rattle.rules.specs.declared.link_rules.row_at.RowAt.{RowAt}
use Rattle.rules.specs.link_rules.Linked.{assemblies}
use Rattle.base_laws.specs.walk_laws.Walks.{BasesWhole}
use Rattle.base_laws.proofs.lemmas.walk_laws.Bases.{all_whole}
use Rattle.rules.specs.type_rules.Dispatch.{dispatch_slot}
use Rattle.rules.specs.view_rules.Answers.{core_type_id, starts_query, queries_of}
use Rattle.rules.specs.change_rules.Change.{Change}
use Rattle.rules.specs.view_rules.Methods.{method_query}
use Rattle.rules.specs.change_rules.Keeps.{names_of, keeps_expr, shows_expr, makes_expr, keeps_made, can_call, is_of_owner}
use Rattle.rules.specs.change_rules.Agree.{is_asked, Agree}
use Rattle.rules.specs.world_change_rules.Places.{Places, method_number}
use Rattle.run_laws.specs.dispatch_laws.Kept.{KeepsRuns, slot_numbered}
use Rattle.run_laws.proofs.lemmas.query_laws.Lookups.{head_moved, method_moved, field_moved}
use Rattle.run_laws.proofs.lemmas.query_laws.Wholes.{kin_moved}
use Rattle.run_laws.proofs.lemmas.query_laws.Texts.{text_moved, label_moved, space_moved}
use Rattle.run_laws.proofs.lemmas.query_laws.Enclosers.{encloser_moved, encloser_kept}
use Rattle.run_laws.proofs.lemmas.query_laws.Shapes.{shape_moved}
use Rattle.run_laws.proofs.lemmas.query_laws.Cells.{cells_moved}
use Rattle.run_laws.proofs.lemmas.query_laws.Covered.{shape_kept}
use Rattle.run_laws.proofs.lemmas.query_laws.Starts.{starts_moved, starts_kept, starts_from}
use Rattle.run_laws.proofs.lemmas.dispatch_laws.Uses.{answers_moved}
use Rattle.run_laws.proofs.lemmas.subtype_laws.Below.{below_moved}
use Rattle.run_laws.proofs.lemmas.subtype_laws.Choices.{choices_moved}
use Rattle.run_laws.specs.agree_laws.Laws.{IsTrimmed, TrimmedAgrees}
use Rattle.run_laws.proofs.lemmas.agree_laws.Virtual.{runs_virtual}
use Rattle.run_laws.proofs.lemmas.agree_laws.Named.{cells_kept, fields_kept, answers_kept}

module _ (k : Change) (kept : RowAt → Bool) (p : Places) (outputs inputs : List AsmRec) (t : IsTrimmed k kept p outputs inputs) where
  abbrev after : List AsmRec
  after = assemblies outputs

  abbrev before : List AsmRec
  before = assemblies inputs

  later : BasesWhole after
  later = all_whole outputs t.linked

  earlier : BasesWhole before
  earlier = all_whole inputs t.sound

  shown_kept : (e : TypeExpr) → IsTrue (shows_expr k.keep e) → IsTrue (keeps_expr k.keep e)
  shown_kept e h = first_so (keeps_expr k.keep e) (names_of k.keep e).shown h

  made_kept : (e : TypeExpr) → IsTrue (keeps_made k.keep e) → IsTrue (keeps_expr k.keep e)
  made_kept e h = shown_kept e (first_so (shows_expr k.keep e) (makes_expr k.keep e) h)

  runs : (e owner : TypeExpr) (m : ℕ) → IsTrue (keeps_made k.keep e) → IsTrue (keeps_expr k.keep owner) → IsTrue (k.keep.method m) → IsTrue (is_of_owner (method_query before m) owner) → KeepsRuns k after before e owner m
  runs e owner m h g u o = record {
    runs = λ f is. t.closed.runs e owner m f h g u o is;
    finds = λ s f is face found. t.closed.finds e owner m s f h g u o is face found;
    chooses = λ s is face. choices_moved k kept p outputs inputs t.linked t.sound t.moves t.closed.rows t.closed.implied e owner (made_kept e h) g;
  }

  -- what a virtual call runs, and an initializer, can be called
  run_kept : (e owner : TypeExpr) (m : ℕ) (f : RowAt) → IsTrue (keeps_made k.keep e) → IsTrue (keeps_expr k.keep owner) → IsTrue (k.keep.method m) → IsTrue (is_of_owner (method_query before m) owner)
      → option_and_then (dispatch_slot before e owner) (slot_numbered before m) ≡ Some f → IsTrue (can_call k.keep (method_number before f))
  run_kept e owner m f h g u o is =
      let v = runs_virtual before e owner f (slot_numbered before m) is in
      and_from (k.keep.method (method_number before f)) (k.keep.called (method_number before f)) (t.closed.runs e owner m f h g u o is) (t.closed.slots_called f v.row v.there v.virtual)

  start_kept : (i m : ℕ) → IsTrue (k.keep.begun i) → starts_query before i ≡ Some m → IsTrue (can_call k.keep m)
  start_kept i m h is =
      let s = starts_from before i m is in
      and_from (k.keep.method m) (k.keep.called m) (starts_kept k kept p after before t.moves t.closed.rows i m h is) (subst (λ (n : ℕ). IsTrue (k.keep.called n)) s.number (t.closed.starts_called s.typ s.method s.is))

  asked : IsTrue (is_asked core.Exception)
  unfolding is_asked
  asked = refl

  exception : IsTrue (k.keep.typ (core_type_id before core.Exception))
  exception =
      let i : ℕ = core_type_id before core.Exception in
      first_so (k.keep.typ i) (k.keep.made i) (first_so _ (k.keep.shown i) (t.closed.known core.Exception asked))

  pub agrees : Agree k (queries_of after) (queries_of before)
  unfolding queries_of
  agrees = record {
    core = λ m h. t.moves.core.calls m h;
    searches_nothing = λ m c h is. t.closed.searches_nothing m c h is;
    known = λ n h. t.moves.core.types n;
    method = λ m h. method_moved k kept p after before t.moves m h;
    field = λ f h. field_moved k kept p after before t.moves f h;
    head = λ i h. head_moved k kept p after before t.moves i h;
    shape = λ e h. shape_moved k kept p after before t.moves t.closed.rows e h;
    cells = λ e h. cells_moved k kept p after before t.moves t.closed.rows later earlier e h;
    starts = λ i h. starts_moved k kept p after before t.moves t.closed.rows i h;
    below = λ a b h g. below_moved k kept p outputs inputs t.linked t.sound t.moves t.closed.rows t.closed.implied a b h g;
    answers = λ e owner m h g u o.
        answers_moved k kept p after before t.moves t.closed.rows t.apart t.closed.impls later earlier t.slots_after t.slots_before e (made_kept e h) owner m u (runs e owner m h g u o);
    text = λ e h. text_moved k kept p after before t.moves t.closed.rows e h;
    label = λ e h. label_moved k kept p after before t.moves t.closed.rows e h;
    space = λ e h. space_moved k kept p after before t.moves t.closed.rows e h;
    encloser = λ i h. encloser_moved k kept p after before t.moves t.closed.rows i h;
    kin = λ e h. kin_moved k kept p after before t.moves t.closed.rows later earlier e h;
    to_string = t.moves.core.methods core.ToString;
    equals = t.moves.core.methods core.Equals;
    keeps_known = λ n h. t.closed.known n h;
    keeps_methods = λ m f h is. t.closed.methods m f h is;
    keeps_fields = λ f d h is. fields_kept k kept p after before t.moves t.closed.rows exception f d h is;
    keeps_shapes = λ e h. shape_kept k kept p after before t.moves t.closed.rows e h;
    keeps_cells = λ e h. cells_kept k kept p after before t.moves t.closed.rows exception e h;
    keeps_starts = λ i m h is. start_kept i m h is;
    keeps_encloser = λ i u h is. encloser_kept k kept p after before t.moves t.closed.rows i u h is;
    keeps_answers = λ e owner m u h g v o is. answers_kept k kept p after before t.moves t.closed.rows exception e owner m u (made_kept e h) (λ f it. run_kept e owner m f h g v o it) is;
    keeps_to_string = t.closed.to_string;
    keeps_equals = t.closed.equals;
    makes_values = λ e h is. t.closed.values e h is;
  }

pub all_agree : TrimmedAgrees
all_agree k kept p outputs inputs t = agrees k kept p outputs inputs t
