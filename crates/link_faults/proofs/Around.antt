-- The graph of enclosers, row by row.
use Rattle.std.proofs.Common.{◌≡◌, ℕ, suc, ◌+◌, ◌<◌, ◌==◌, Bool, true, false, nat_eq, List, [], ◌∷◌, length, drop, get_or, Option, Some, None, refl, sym, ap, subst, ◌∙◌, arith}
use Rattle.std.specs.Prelude.{if◌then◌else◌}
use Rattle.std.proofs.lemmas.List.{map-id, drop_all}
use Rattle.il_base.specs.declared.world_model.types.NestedClassRow.{NestedClassRow}
use Rattle.il_base.specs.declared.world_model.record.AsmRec.{AsmRec}
use Rattle.il_base.specs.world_model.Tokens.{token_of, index_in}
use Rattle.rules.specs.link_rules.Types.{encloser_in, encloser}
use Rattle.rules.specs.link_rules.Cycles.{listed, is_on_cycle, around}
use Rattle.rules.specs.link_rules.Faults.{first_of, is_cyclic_around, cyclic_nesting_row}
use Rattle.link_faults.specs.Graphs.{next_in, IsAcyclic}
use Rattle.link_faults.specs.Nesting.{IsAround}
use Rattle.link_faults.proofs.Each.{Each}
use Rattle.link_faults.proofs.Renamed.{Leads, cycle_moved}
use Rattle.link_faults.proofs.Tokens.{named, token_test, no_token}
use Rattle.link_faults.proofs.Walks.{next_of, first_none}

pub around_none : (rows : List NestedClassRow) (n : ℕ) → length rows ≡ n → IsAround (drop n rows) []
around_none rows n e k short = rw (drop_all n rows (omega arith)) refl

listed_if : (b : Bool) (x o : Option ℕ) (ys : List ℕ) → ys ≡ listed o → (if b then listed x else ys) ≡ listed (if b then x else o)
listed_if true x o ys e = refl
listed_if false x o ys e = e

module _ (rows : List NestedClassRow) (at : ℕ) (row : NestedClassRow) (graph : List (List ℕ)) (lt : at < length rows) (is : row ≡ get_or rows at row) (rest : IsAround (drop (at + 1) rows) graph) where
  -- a row that names no type says nothing
  pub around_skip : index_in 0x02 row.nested_class ≡ None → IsAround (drop at rows) graph
  around_skip h k short = rw (next_of rows at row lt is, no_token row.nested_class k h short) (rest k short)

  -- the row that comes first counts
  pub around_more : (new : List (List ℕ)) (nested : ℕ) → index_in 0x02 row.nested_class ≡ Some nested
      → ((other : ℕ) → next_in new other ≡ (if nested == other then listed (index_in 0x02 row.enclosing_class) else next_in graph other)) → IsAround (drop at rows) new
  around_more new nested h n k short =
      rw (next_of rows at row lt is, token_test row.nested_class nested k h)
      (n k ∙ listed_if (nested == k) (index_in 0x02 row.enclosing_class) (encloser_in (token_of 0x02 (suc k)) (drop (at + 1) rows)) (next_in graph k) (rest k short))

-- ---- an encloser on a cycle

abbrev IsShort : ℕ → Type 0
IsShort k = suc k < 16777216

short_listed : (token : ℕ) (o : Option ℕ) → index_in 0x02 token ≡ o → Each IsShort (listed o)
short_listed token None e = tt
short_listed token (Some k) e = ((named token k e).short, tt)

either_short : (b : Bool) (o p : Option ℕ) → Each IsShort (listed o) → Each IsShort (listed p) → Each IsShort (listed (if b then o else p))
either_short true o p e f = e
either_short false o p e f = f

-- an encloser is a row that a token can name
encloser_short : (token : ℕ) (rows : List NestedClassRow) → Each IsShort (listed (encloser_in token rows))
encloser_short token [] = tt
encloser_short token (row ∷ rows) =
    either_short (row.nested_class == token) (index_in 0x02 row.enclosing_class) (encloser_in token rows)
    (short_listed row.enclosing_class (index_in 0x02 row.enclosing_class) refl) (encloser_short token rows)

leads_around : (rec : AsmRec) (graph : List (List ℕ)) → IsAround rec.nested_class graph → (k : ℕ) → IsShort k → Leads (around rec) IsShort (λ x. x) (next_in graph) k
unfolding encloser
leads_around rec graph a k short = record {
  stays = encloser_short (token_of 0x02 (suc k)) rec.nested_class;
  numbered = a k short ∙ sym (map-id (around rec k));
}

pub cyclic_same : (rec : AsmRec) (graph : List (List ℕ)) (token nested : ℕ) → IsAround rec.nested_class graph → index_in 0x02 token ≡ Some nested
    → is_on_cycle nat_eq (next_in graph) (length rec.type_def) nested ≡ is_cyclic_around rec (index_in 0x02 token)
cyclic_same rec graph token nested a h =
    sym (cycle_moved nat_eq (around rec) IsShort (λ x. x) (next_in graph) (λ x y p q. refl) (leads_around rec graph a) (length rec.type_def) nested (named token nested h).short)
    ∙ sym (ap (is_cyclic_around rec) h)

none_around : (rec : AsmRec) (graph : List (List ℕ)) (o : Option ℕ) (token : ℕ) → IsAround rec.nested_class graph → IsAcyclic graph → index_in 0x02 token ≡ o → is_cyclic_around rec o ≡ false
none_around rec graph None token a h e = refl
none_around rec graph (Some k) token a h e = sym (ap (is_cyclic_around rec) e) ∙ sym (cyclic_same rec graph token k a e) ∙ h (length rec.type_def) k

pub none_cyclic : (rec : AsmRec) (file : ℕ) (graph now : List (List ℕ)) → IsAround rec.nested_class graph → now ≡ graph → IsAcyclic now
    → None ≡ first_of (cyclic_nesting_row rec file) 0 rec.nested_class
none_cyclic rec file graph now a e h =
    first_none (cyclic_nesting_row rec file) 0 rec.nested_class
    (λ k row. rw (none_around rec graph (index_in 0x02 row.nested_class) row.nested_class a (subst (λ (g : List (List ℕ)). IsAcyclic g) e h) refl) refl)
