-- What two worlds answer of a kept type, where the one has the kept rows of the other.
use Rattle.std.specs.Prelude.{◌≡◌, ℕ, List, [], ◌∷◌, map, Bool, Option, Some, None, IsTrue, ◌&&◌, if◌then◌else◌}
use Rattle.std.specs.List.{list_all, filter}
use Rattle.std.specs.Option.{option_map}
use Rattle.il_base.specs.declared.world_model.expr.TypeExpr.{TypeExpr}
use Rattle.il_base.specs.declared.world_model.record.AsmRec.{AsmRec}
use Rattle.rules.specs.declared.link_rules.row_at.RowAt.{RowAt}
use Rattle.rules.specs.link_rules.Members.{bases_from, with_bases}
use Rattle.rules.specs.link_rules.Cycles.{home_of}
use Rattle.rules.specs.type_rules.Texts.{text}
use Rattle.rules.specs.type_rules.Labels.{label, space}
use Rattle.rules.specs.type_rules.Slots.{is_virtual, match_in, nearest, slot_of}
use Rattle.rules.specs.declared.link_rules.member_type.MethodType.{MethodType}
use Rattle.base_laws.specs.walk_laws.Walks.{BasesWhole, SlotsWhole}
use Rattle.rules.specs.view_rules.Methods.{head_query, method_query, field_query}
use Rattle.rules.specs.view_rules.Answers.{nearest_core, starts_query, encloser_query}
use Rattle.rules.specs.view_rules.Layouts.{shape_query, cells_query}
use Rattle.rules.specs.change_rules.Answers.{move_method, move_field, move_layout, move_shape}
use Rattle.rules.specs.change_rules.States.{mask}
use Rattle.rules.specs.change_rules.Keeping.{keep}
use Rattle.rules.specs.change_rules.Change.{Change}
use Rattle.rules.specs.change_rules.Moves.{move_expr}
use Rattle.rules.specs.change_rules.Keeps.{keeps_expr, shows_expr, keeps_shape}
use Rattle.rules.specs.world_change_rules.Places.{Places, keeps_method_row}
use Rattle.rules.specs.world_change_rules.Rows.{RowsMove, move_method_type}
use Rattle.rules.specs.world_change_rules.Kept.{KeepsRows}

abbrev pub ForKept : ((k : Change) (p : Places) (after before : List AsmRec) → Type 0) → Type 0
ForKept P = (k : Change) (kept : RowAt → Bool) (p : Places) (after before : List AsmRec) → RowsMove k kept p after before → KeepsRows k.keep kept before → P k p after before

abbrev pub HomesMove : Type 0
HomesMove = ForKept (λ k p after before. (e : TypeExpr) → IsTrue (keeps_expr k.keep e) → home_of after (move_expr k.rho e) ≡ option_map p.typ (home_of before e))

abbrev pub BasesMove : Type 0
BasesMove = ForKept (λ k p after before. (n : ℕ) (e : TypeExpr) → IsTrue (keeps_expr k.keep e) → bases_from after n (move_expr k.rho e) ≡ map (move_expr k.rho) (bases_from before n e))

-- where the bases of both worlds are whole within as many steps as there are types, as in every linked world
abbrev pub KinsMove : Type 0
KinsMove = ForKept (λ k p after before. BasesWhole after → BasesWhole before → (e : TypeExpr) → IsTrue (keeps_expr k.keep e)
    → nearest_core after (with_bases after (move_expr k.rho e)) ≡ nearest_core before (with_bases before e))

abbrev pub HeadsMove : Type 0
HeadsMove = ForKept (λ k p after before. (t : ℕ) → IsTrue (k.keep.typ t) → head_query after (k.rho.typ t) ≡ head_query before t)

abbrev pub MethodsMove : Type 0
MethodsMove = ForKept (λ k p after before. (m : ℕ) → IsTrue (k.keep.method m) → method_query after (k.rho.method m) ≡ option_map (move_method k.rho) (method_query before m))

abbrev pub FieldsMove : Type 0
FieldsMove = ForKept (λ k p after before. (f : ℕ) → IsTrue (k.keep.field f) → field_query after (k.rho.field f) ≡ option_map (move_field k.rho) (field_query before f))

abbrev pub TextsMove : Type 0
TextsMove = ForKept (λ k p after before. (e : TypeExpr) → IsTrue (shows_expr k.keep e) → text after (move_expr k.rho e) ≡ text before e)

abbrev pub LabelsMove : Type 0
LabelsMove = ForKept (λ k p after before. (e : TypeExpr) → IsTrue (shows_expr k.keep e) → label after (move_expr k.rho e) ≡ label before e)

abbrev pub SpacesMove : Type 0
SpacesMove = ForKept (λ k p after before. (e : TypeExpr) → IsTrue (shows_expr k.keep e) → space after (move_expr k.rho e) ≡ space before e)

abbrev pub EnclosersMove : Type 0
EnclosersMove = ForKept (λ k p after before. (t : ℕ) → IsTrue (k.keep.shown t) → encloser_query after (k.rho.typ t) ≡ option_map k.rho.typ (encloser_query before t))

abbrev pub EnclosersKept : Type 0
EnclosersKept = ForKept (λ k p after before. (t u : ℕ) → IsTrue (k.keep.shown t) → encloser_query before t ≡ Some u → IsTrue (k.keep.typ u && k.keep.shown u))

abbrev pub ShapesMove : Type 0
ShapesMove = ForKept (λ k p after before. (e : TypeExpr) → IsTrue (keeps_expr k.keep e) → shape_query after (move_expr k.rho e) ≡ move_shape k.rho (shape_query before e))

abbrev pub CellsMove : Type 0
CellsMove = ForKept (λ k p after before. BasesWhole after → BasesWhole before → (e : TypeExpr) → IsTrue (keeps_expr k.keep e)
    → cells_query after (move_expr k.rho e) ≡ map (move_layout k.rho) (keep (mask k.keep (cells_query before e)) (cells_query before e)))

abbrev pub ShapesKept : Type 0
ShapesKept = ForKept (λ k p after before. (e : TypeExpr) → IsTrue (keeps_expr k.keep e) → IsTrue (keeps_shape k.keep (shape_query before e)))

-- the first row that passes a test
abbrev pub first_at : (RowAt → Bool) → List RowAt → Option RowAt
first_at T [] = None
first_at T (x ∷ xs) = if T x then Some x else first_at T xs

abbrev pub FirstsMove : Type 0
FirstsMove = (f : RowAt → RowAt) (kept before after : RowAt → Bool) → ((x : RowAt) → IsTrue (kept x) → after (f x) ≡ before x)
    → (xs : List RowAt) → ((x : RowAt) → first_at before xs ≡ Some x → IsTrue (kept x)) → first_at after (map f (filter kept xs)) ≡ option_map f (first_at before xs)

abbrev pub StartsMove : Type 0
StartsMove = ForKept (λ k p after before. (t : ℕ) → IsTrue (k.keep.begun t) → starts_query after (k.rho.typ t) ≡ option_map k.rho.method (starts_query before t))

abbrev pub StartsKept : Type 0
StartsKept = ForKept (λ k p after before. (t m : ℕ) → IsTrue (k.keep.begun t) → starts_query before t ≡ Some m → IsTrue (k.keep.method m))

-- the nearest virtual method of a name and a signature, where it is kept
abbrev pub MatchesMove : Type 0
MatchesMove = ForKept (λ k p after before. (name : List ℕ) (wanted : MethodType) (es : List TypeExpr) → IsTrue (list_all (keeps_expr k.keep) es)
    → ((m : RowAt) → nearest (match_in before is_virtual name wanted) es ≡ Some m → IsTrue (keeps_method_row k.keep before m))
    → nearest (match_in after is_virtual name (move_method_type k.rho wanted)) (map (move_expr k.rho) es) ≡ option_map p.method (nearest (match_in before is_virtual name wanted) es))

-- where bases and slots of both worlds are whole, as in every world of files that link
abbrev pub SlotsMove : Type 0
SlotsMove = ForKept (λ k p after before. BasesWhole after → BasesWhole before → SlotsWhole after → SlotsWhole before
    → (at : RowAt) → IsTrue (keeps_method_row k.keep before at) → slot_of after (p.method at) ≡ option_map p.method (slot_of before at))
