-- A row whose values have all been taken.
use Rattle.std.proofs.Common.{◌≡◌, ℕ, ◌≤◌, List, [], ◌∷◌, ◌++◌, map, drop, length, refl, sym, ap, ◌∙◌, arith}
use Rattle.std.proofs.lemmas.List.{drop_all, append-nil}
use Rattle.il_base.specs.declared.cli_format.column.Column.{Column}
use Rattle.rules.specs.declared.file_layout.cell.Cell.{Cell}
use Rattle.rules.specs.declared.record_layout.value.Value.{Value}
use Rattle.rules.specs.record_layout.Values.{row_cells}
use Rattle.rules.specs.record_layout.Tables.{with_rvas}

no_cells : (cs : List Column) → row_cells cs [] ≡ []
unfolding row_cells
no_cells [] = refl
no_cells (c ∷ cs) = refl

pub no_more : (out total : List Cell) (cs : List Column) (vs : List Value) → vs ≡ [] → out ++ row_cells cs vs ≡ total → out ≡ total
no_more out total cs vs e h =
    sym (append-nil out) ∙ ap (λ (cells : List Cell). out ++ cells) (sym (ap (row_cells cs) e ∙ no_cells cs)) ∙ h

pub none_left : (vs : List Value) → length vs ≡ 0 → vs ≡ []
none_left [] e = refl
none_left (v ∷ vs) e = absurd (omega (arith, e))

no_rows : {A : Type 0} (values : ℕ → A → List Value) (rvas : List ℕ) → with_rvas values rvas [] ≡ []
unfolding with_rvas
no_rows values [] = refl
no_rows values (rva ∷ rvas) = refl

-- all rows have been taken
pub no_more_rows : {A : Type 0} (f : List Value → List Cell) (values : ℕ → A → List Value) (out total : List (List Cell)) (rvas : List ℕ) (rows : List A) (i : ℕ) → length rows ≤ i
    → out ++ map f (with_rvas values rvas (drop i rows)) ≡ total → out ≡ total
no_more_rows {A = A} f values out total rvas rows i le h =
    let none : with_rvas values rvas (drop i rows) ≡ [] = ap (λ (rs : List A). with_rvas values rvas rs) (drop_all i rows le) ∙ no_rows values rvas in
    sym (append-nil out) ∙ ap (λ (vs : List (List Value)). out ++ map f vs) (sym none) ∙ h
