-- Elements that wait, by their types.
use Rattle.std.proofs.Common.{◌≡◌, ℕ, List, [], ◌∷◌, ◌++◌, map, Bool, true, false, Option, Some, None, refl, sym, ap, ◌∙◌}
use Rattle.std.specs.Prelude.{◌==◌, ◌||◌, if◌then◌else◌}
use Rattle.std.specs.List.{flat_map}
use Rattle.std.proofs.lemmas.List.{append-nil}
use Rattle.il_base.specs.declared.ids.TypeId.{TypeId}
use Rattle.il_base.specs.declared.ids.Item.{Item}
use Rattle.il_base.specs.declared.ids.Item.TheVariants as item
use Rattle.il_base.specs.declared.world_model.record.AsmRec.{AsmRec}
use Rattle.descriptor_file.specs.declared.root.Root.{Root}
use Rattle.rules.specs.declared.link_rules.row_at.RowAt.{RowAt}
use Rattle.rules.specs.link_rules.Cycles.{listed}
use Rattle.type_tables.specs.declared.groups.Groups.{Groups}
use Rattle.type_tables.specs.Groups.{rows_with, AreGroups}
use Rattle.type_tables.proofs.Grouped.{flat_grouped}
use Rattle.rules.specs.mark_rules.Facts.{Fact}
use Rattle.rules.specs.mark_rules.Roots.{no_type, root_type, waits_for, waiting_facts}
use Rattle.mark_roots.specs.Waiting.{waits, key_by, key_of, kept_with, waits_at}

if_waits : (recs : List AsmRec) (t : TypeId) (r : Root) (b : Bool) (o : Option RowAt) → (if b then [] else flat_map (kept_with recs t r) (listed o)) ≡ flat_map (kept_with recs t r) (listed (if b then None else o))
if_waits recs t r true o = refl
if_waits recs t r false o = refl

-- what an element keeps, by the type for which it waits
pub waits_by : (recs : List AsmRec) (t : TypeId) (r : Root) → waits_for recs (item.Typ t) r ≡ flat_map (kept_with recs t r) (listed (waits recs r))
waits_by recs t r = if_waits recs t r (no_type r || r.required) (root_type recs r)

other : (recs : List AsmRec) (t : TypeId) (r : Root) (o : Option RowAt) → (key_by recs o == t.0) ≡ false → flat_map (kept_with recs t r) (listed o) ≡ []
other recs t r None e = refl
other recs t r (Some at) e = rw e refl

by_group : (recs : List AsmRec) (t : TypeId) (r : Root) (b : Bool) → (key_of recs r == t.0) ≡ b → waits_for recs (item.Typ t) r ≡ (if b then waits_for recs (item.Typ t) r else [])
by_group recs t r true e = refl
by_group recs t r false e = waits_by recs t r ∙ other recs t r (waits recs r) e

pub waiting_grouped : (recs : List AsmRec) (roots : List Root) (t : TypeId) (groups : Groups) → AreGroups (map (key_of recs) roots) groups → (ks : List ℕ) → ks ≡ rows_with groups t.0
    → flat_map (waits_at recs roots t) ks ≡ waiting_facts recs roots (item.Typ t)
unfolding waiting_facts
waiting_grouped recs roots t groups are ks e =
    ap (flat_map (waits_at recs roots t)) e
    ∙ flat_grouped (key_of recs) t.0 roots groups are (waits_for recs (item.Typ t)) (waits_for recs (item.Typ t)) (λ r. by_group recs t r (key_of recs r == t.0) refl)

pub one_kept : (recs : List AsmRec) (t : TypeId) (r : Root) (at : RowAt) (put old : List Fact) → waits recs r ≡ Some at → put ≡ old ++ kept_with recs t r at → put ≡ old ++ waits_for recs (item.Typ t) r
one_kept recs t r at put old w p =
    p ∙ ap (λ (fs : List Fact). old ++ fs) (sym (waits_by recs t r ∙ ap (λ (o : Option RowAt). flat_map (kept_with recs t r) (listed o)) w ∙ append-nil (kept_with recs t r at)))

pub none_kept : (recs : List AsmRec) (t : TypeId) (r : Root) (old : List Fact) → waits recs r ≡ None → old ≡ old ++ waits_for recs (item.Typ t) r
none_kept recs t r old w =
    sym (ap (λ (fs : List Fact). old ++ fs) (waits_by recs t r ∙ ap (λ (o : Option RowAt). flat_map (kept_with recs t r) (listed o)) w) ∙ append-nil old)

none_waiting : (recs : List AsmRec) (i : Item) (roots : List Root) → ((r : Root) → waits_for recs i r ≡ []) → waiting_facts recs roots i ≡ []
unfolding waiting_facts
none_waiting recs i [] h = refl
none_waiting recs i (r ∷ rs) h = rw (h r) (none_waiting recs i rs h)

pub nothing_waits : (recs : List AsmRec) (i : Item) (roots : List Root) (old : List Fact) → ((r : Root) → waits_for recs i r ≡ []) → old ≡ old ++ waiting_facts recs roots i
nothing_waits recs i roots old h = sym (ap (λ (fs : List Fact). old ++ fs) (none_waiting recs i roots h) ∙ append-nil old)

pub group_put : (recs : List AsmRec) (roots : List Root) (t : TypeId) (groups : Groups) (ks : List ℕ) (put old : List Fact) → AreGroups (map (key_of recs) roots) groups → ks ≡ rows_with groups t.0
    → put ≡ old ++ flat_map (waits_at recs roots t) ks → put ≡ old ++ waiting_facts recs roots (item.Typ t)
group_put recs roots t groups ks put old are e p = p ∙ ap (λ (fs : List Fact). old ++ fs) (waiting_grouped recs roots t groups are ks e)
