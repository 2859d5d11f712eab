-- Two members of what is left that are the same come from two of an input that are (II.22.15, II.22.26): for fields and methods alike.
use Rattle.std.proofs.Common.{◌≡◌, ◌<◌, ℕ, suc, ◌+◌, Bool, true, false, nat_eq, List, [], ◌∷◌, length, map, Option, Some, None, inl, inr, refl, sym, ap, subst, ◌∙◌, arith}
use Rattle.std.specs.Prelude.{IsTrue, slice_get, ◌&&◌, if◌then◌else◌}
use Rattle.std.specs.List.{filter, position_from}
use Rattle.std.proofs.lemmas.Bool.{eqb-true, eq-eqb, and_parts, and_from}
use Rattle.il_base.specs.declared.ids.Item.{Item}
use Rattle.il_base.specs.declared.world_model.known.Known.{Known}
use Rattle.il_base.specs.declared.world_model.known.Known.TheVariants.{Good, Bad}
use Rattle.il_base.specs.declared.world_model.types.TypeDefRow.{TypeDefRow}
use Rattle.il_base.specs.declared.world_model.record.AsmRec.{AsmRec}
use Rattle.il_base.specs.world_model.Records.{IsRecord, AreRuns}
use Rattle.il_base.specs.world_model.Core.{same_name}
use Rattle.il_base.specs.world_model.Worlds.{types_in, known_map}
use Rattle.rules.specs.declared.link_rules.row_at.RowAt.{RowAt}
use Rattle.rules.specs.link_rules.Types.{at_row}
use Rattle.rules.specs.link_rules.Members.{is_in_run, is_compiler_controlled}
use Rattle.rules.specs.link_rules.Faults.{numbered, same_key, MemberKey, same_member_key, member_key}
use Rattle.rules.specs.type_rules.Rows.{run_places}
use Rattle.base_laws.proofs.lemmas.type_laws.Within.{In, in_filter, in_map}
use Rattle.rules.specs.change_rules.Change.{Keep}
use Rattle.rules.specs.world_change_rules.Places.{keeps_type_row}
use Rattle.rules.specs.merged_world_rules.Merge.{Merge, IsMerge, before, after}
use Rattle.rules.specs.merged_world_rules.Numbering.{number_at}
use Rattle.rules.specs.merged_world_rules.Kept.{HasFlags}
use Rattle.merge_laws.specs.merged_links.Repeats.{Twice, KeysBack}
use Rattle.merge_laws.proofs.lemmas.merged_places.Ranks.{rank}
use Rattle.merge_laws.proofs.lemmas.merged_places.Rows.{IsThere, place_within, place_has, same_some}
use Rattle.merge_laws.proofs.lemmas.merged_places.Kept.{keeps}
use Rattle.merge_laws.proofs.lemmas.merged_places.Worlds.{after_left, before_input}
use Rattle.merge_laws.proofs.lemmas.merged_places.Tables.{number_type, type_kind}
use Rattle.merge_laws.proofs.lemmas.merged_places.Moving.{Kind, place_kept}
use Rattle.merge_laws.proofs.lemmas.merged_places.Situations.{place, place_there}
use Rattle.merge_laws.proofs.lemmas.merged_rows_move.Members.{record_of}
use Rattle.merge_laws.proofs.lemmas.merged_rows_move.Owners.{first_is}
use Rattle.merge_laws.proofs.lemmas.merged_signatures.Reading.{good_map}
use Rattle.trim_laws.proofs.lemmas.merged_back.Homes.{typ, stands_keeps, stays_stands}
use Rattle.trim_laws.proofs.lemmas.merged_back.Rows.{KeptRow, kept_row, lower, in_run, of_run, one_run, numbered_at, numbered_from}

pub mapped_in : {A B : Type 0} (f : A → B) (xs : List A) (x : A) → In x xs → In (f x) (map f xs)
mapped_in f [] x h = absurd h
mapped_in f (y ∷ xs) x (inl e) = inl (ap f e)
mapped_in f (y ∷ xs) x (inr h) = inr (mapped_in f xs x h)

-- a member of a kept type, by its place in what is left
pub record Member {R : Type 0} (m : Merge) (rows : AsmRec → List R) (first end : TypeDefRow → ℕ) (number_item : ℕ → Item) (p j : ℕ) (o : KeptRow types_in (before m) number_type m.kept p) : Type 0 where
  pub row : ℕ
  pub below : row < length (rows o.there.rec)
  pub t : TypeDefRow
  pub typ_is : slice_get o.there.rec.type_def o.at.row ≡ Some t
  pub owned : is_in_run (first t) (end t) (suc row) ≡ true
  pub keeps_it : m.kept (number_item (number_at (λ rec. length (rows rec)) (before m) (at_row o.at.asm row))) ≡ true
  pub rank_is : rank (keeps (λ rec. length (rows rec)) (before m) number_item m.kept) (number_at (λ rec. length (rows rec)) (before m) (at_row o.at.asm row)) ≡ j

module _ (m : Merge) (is : IsMerge m) (k : Keep) (kept : RowAt → Bool) (flags : HasFlags m k kept) where
  -- a kept type by its place
  abbrev Kept : ℕ → Type 0
  Kept p = KeptRow types_in (before m) number_type m.kept p

  pub kept_stands : (p : ℕ) (o : Kept p) → typ m is k kept flags o.at ≡ at_row 0 p
  kept_stands p o =
      place_there m types_in number_type (type_kind m is) o.at o.there ∙ place_kept m types_in number_type (type_kind m is) o.at o.there o.earlier o.keeps_it ∙ ap (at_row 0) o.rank_is

  pub kept_keeps : (p : ℕ) (o : Kept p) → IsTrue (keeps_type_row k (before m) o.at)
  kept_keeps p o =
      let lt = o.earlier in
      stands_keeps m k o.at (stays_stands m is k kept flags o.at o.there ((λ l. o.keeps_it), (λ last. absurd (omega (arith, lt, last)))))

  -- ---- a kind of members, with the runs of types

  module _ {R : Type 0} (rows : AsmRec → List R) (first end : TypeDefRow → ℕ) (number_item : ℕ → Item) (kind : Kind m (λ rec. length (rows rec)) number_item)
      (of_type : List AsmRec → RowAt → List RowAt)
      (of_row : (recs : List AsmRec) (at : RowAt) (rec : AsmRec) → slice_get recs at.asm ≡ Some rec → (t : TypeDefRow) → slice_get rec.type_def at.row ≡ Some t → of_type recs at ≡ map (at_row at.asm) (run_places (first t) (end t) (rows rec)))
      (flag : RowAt → Bool) (flagged : (at : RowAt) → IsThere (λ rec. length (rows rec)) (before m) at → flag at ≡ m.kept (number_item (number_at (λ rec. length (rows rec)) (before m) at)))
      (moves : (at : RowAt) → IsTrue (keeps_type_row k (before m) at) → of_type (after m) (typ m is k kept flags at) ≡ map (place m (λ rec. length (rows rec)) number_item kind) (filter flag (of_type (before m) at)))
      (size : AsmRec → ℕ) (runs : (rec : AsmRec) → IsRecord rec → AreRuns (size rec) first end rec.type_def) where
    abbrev count : AsmRec → ℕ
    count rec = length (rows rec)

    abbrev number : RowAt → ℕ
    number at = number_at count (before m) at

    pub member : (p j : ℕ) (o : Kept p) (t' : TypeDefRow) → slice_get m.left.type_def p ≡ Some t' → is_in_run (first t') (end t') (suc j) ≡ true → j < length (rows m.left)
        → Member m rows first end number_item p j o
    member p j o t' e owned low =
        let inside : In (at_row 0 j) (of_type (after m) (at_row 0 p)) =
        subst (λ (xs : List RowAt). In (at_row 0 j) xs) (sym (of_row (after m) (at_row 0 p) m.left (after_left m) t' e))
        (mapped_in (at_row 0) (run_places (first t') (end t') (rows m.left)) j (in_run (first t') (end t') j (rows m.left) owned low)) in
        let moved : of_type (after m) (at_row 0 p) ≡ map (place m count number_item kind) (filter flag (of_type (before m) o.at)) =
        ap (of_type (after m)) (sym (kept_stands p o)) ∙ moves o.at (kept_keeps p o) in
        let x = in_map (place m count number_item kind) (at_row 0 j) (filter flag (of_type (before m) o.at)) (subst (λ (xs : List RowAt). In (at_row 0 j) xs) moved inside) in
        let f = in_filter x.0 flag (of_type (before m) o.at) x.1 in
        let t = place_has o.there.rec.type_def o.at.row o.there.below in
        let y = in_map (at_row o.at.asm) x.0 (run_places (first t.0) (end t.0) (rows o.there.rec)) (subst (λ (xs : List RowAt). In x.0 xs) (of_row (before m) o.at o.there.rec o.there.here t.0 t.1) f.1) in
        let whole = runs o.there.rec (record_of m is o.at.asm o.there.rec o.there.here o.earlier) in
        let r = of_run (first t.0) (end t.0) y.0 (rows o.there.rec) (whole.begins o.at.row t.0 t.1) y.1 in
        let there : IsThere count (before m) (at_row o.at.asm y.0) = record { rec = o.there.rec; here = o.there.here; below = r.1 } in
        let keeps_it : m.kept (number_item (number (at_row o.at.asm y.0))) ≡ true = sym (flagged (at_row o.at.asm y.0) there) ∙ ap flag (sym y.2) ∙ f.0 in
        let stands : place m count number_item kind (at_row o.at.asm y.0) ≡ at_row 0 (rank (keeps count (before m) number_item m.kept) (number (at_row o.at.asm y.0))) =
        place_there m count number_item kind (at_row o.at.asm y.0) there ∙ place_kept m count number_item kind (at_row o.at.asm y.0) there o.earlier keeps_it in
        record {
          row = y.0;
          below = r.1;
          t = t.0;
          typ_is = t.1;
          owned = r.0;
          keeps_it = keeps_it;
          rank_is = ap (λ (z : RowAt). z.row) (sym stands ∙ ap (place m count number_item kind) (sym y.2) ∙ sym x.2);
        }

    -- ---- their keys

    module _ {S : Type 0} (access : R → ℕ) (name : R → List ℕ) (sig : List AsmRec → ℕ → AsmRec → R → Known S) (move : S → S) (same : S → S → Bool) (same_moved : (x y : S) → same (move x) (move y) ≡ same x y)
        (left_row : (at : RowAt) (rec : AsmRec) (r : R) → IsThere count (before m) at → suc at.asm < length (before m) → m.kept (number_item (number at)) ≡ true → slice_get (before m) at.asm ≡ Some rec
        → slice_get (rows rec) at.row ≡ Some r
        → (r' : R) × (slice_get (rows m.left) (rank (keeps count (before m) number_item m.kept) (number at)) ≡ Some r')
        × ((is_compiler_controlled (access r') ≡ is_compiler_controlled (access r)) × (name r' ≡ name r) × (sig (after m) 0 m.left r' ≡ known_map move (sig (before m) at.asm rec r)))) where
      abbrev key : List AsmRec → ℕ → AsmRec → ℕ → R → Option (MemberKey S)
      key recs a rec n r =
          if is_compiler_controlled (access r) then None
          else member_key (name r) (position_from (λ (t : TypeDefRow). is_in_run (first t) (end t) (suc n)) 0 rec.type_def) (sig recs a rec r)

      record KeyIs (recs : List AsmRec) (a : ℕ) (rec : AsmRec) (n : ℕ) (r : R) (x : MemberKey S) : Type 0 where
        shown : is_compiler_controlled (access r) ≡ false
        owner : position_from (λ (t : TypeDefRow). is_in_run (first t) (end t) (suc n)) 0 rec.type_def ≡ Some x.owner
        named : name r ≡ x.name
        signed : sig recs a rec r ≡ Good x.signature

      key_by : (recs : List AsmRec) (a : ℕ) (rec : AsmRec) (n : ℕ) (r : R) (x : MemberKey S) (b : Bool) (o : Option ℕ) (s : Known S) → is_compiler_controlled (access r) ≡ b
          → position_from (λ (t : TypeDefRow). is_in_run (first t) (end t) (suc n)) 0 rec.type_def ≡ o → sig recs a rec r ≡ s → (if b then None else member_key (name r) o s) ≡ Some x → KeyIs recs a rec n r x
      key_by recs a rec n r x true o s e f g h = absurd (cc)
      key_by recs a rec n r x false None s e f g h = absurd (cc)
      key_by recs a rec n r x false (Some p) (Bad why) e f g h = absurd (cc)
      key_by recs a rec n r x false (Some p) (Good s) e f g h =
          let it = same_some (record { owner = p; name = name r; signature = s }) x h in
          record {
            shown = e;
            owner = f ∙ ap (λ (y : MemberKey S). Some y.owner) it;
            named = ap (λ (y : MemberKey S). y.name) it;
            signed = g ∙ ap (λ (y : MemberKey S). Good y.signature) it;
          }

      key_is : (recs : List AsmRec) (a : ℕ) (rec : AsmRec) (n : ℕ) (r : R) (x : MemberKey S) → key recs a rec n r ≡ Some x → KeyIs recs a rec n r x
      key_is recs a rec n r x h =
          key_by recs a rec n r x (is_compiler_controlled (access r)) (position_from (λ (t : TypeDefRow). is_in_run (first t) (end t) (suc n)) 0 rec.type_def) (sig recs a rec r) refl refl refl h

      is_key : (recs : List AsmRec) (a : ℕ) (rec : AsmRec) (n : ℕ) (r : R) (p : ℕ) (s : S) → is_compiler_controlled (access r) ≡ false
          → position_from (λ (t : TypeDefRow). is_in_run (first t) (end t) (suc n)) 0 rec.type_def ≡ Some p → sig recs a rec r ≡ Good s → key recs a rec n r ≡ Some (record { owner = p; name = name r; signature = s })
      is_key recs a rec n r p s e f g = λ i. if e i then None else member_key (name r) (f i) (g i)

      -- the key that a member has in its input
      record InputKey (p j : ℕ) (o : Kept p) (x : MemberKey S) : Type 0 where
        row : ℕ
        r : R
        there : slice_get (rows o.there.rec) row ≡ Some r
        s : S
        moved : move s ≡ x.signature
        named : name r ≡ x.name
        rank_is : rank (keeps count (before m) number_item m.kept) (number (at_row o.at.asm row)) ≡ j
        keyed : key (before m) o.at.asm o.there.rec row r ≡ Some (record { owner = o.at.row; name = name r; signature = s })

      input_key : (p j : ℕ) (o : Kept p) (rj : R) (x : MemberKey S) → slice_get (rows m.left) j ≡ Some rj → KeyIs (after m) 0 m.left j rj x → x.owner ≡ p → InputKey p j o x
      input_key p j o rj x e h own =
          let f = first_is (λ (t : TypeDefRow). is_in_run (first t) (end t) (suc j)) m.left.type_def x.owner h.owner in
          let mem = member p j o f.item (ap (slice_get m.left.type_def) (sym own) ∙ f.there) f.passes (place_within (rows m.left) j rj e) in
          let there : IsThere count (before m) (at_row o.at.asm mem.row) = record { rec = o.there.rec; here = o.there.here; below = mem.below } in
          let r = place_has (rows o.there.rec) mem.row mem.below in
          let l = left_row (at_row o.at.asm mem.row) o.there.rec r.0 there o.earlier mem.keeps_it o.there.here r.1 in
          let one : l.0 ≡ rj = same_some l.0 rj (sym l.1 ∙ ap (slice_get (rows m.left)) mem.rank_is ∙ e) in
          let like = l.2 in
          let g = good_map move (sig (before m) o.at.asm o.there.rec r.0) x.signature (sym like.2 ∙ ap (sig (after m) 0 m.left) one ∙ h.signed) in
          let whole = runs o.there.rec (record_of m is o.at.asm o.there.rec o.there.here o.earlier) in
          record {
            row = mem.row;
            r = r.0;
            there = r.1;
            s = g.from;
            moved = g.gives;
            named = sym like.1 ∙ ap name one ∙ h.named;
            rank_is = mem.rank_is;
            keyed = is_key (before m) o.at.asm o.there.rec mem.row r.0 o.at.row g.from (sym like.0 ∙ ap (λ (y : R). is_compiler_controlled (access y)) one ∙ h.shown)
                (one_run (size o.there.rec) first end o.there.rec.type_def whole mem.row o.at.row mem.t mem.typ_is mem.owned) g.is;
          }

      abbrev keys : List AsmRec → ℕ → AsmRec → List (Option (MemberKey S))
      keys recs a rec = numbered (key recs a rec) 0 (rows rec)

      twice : (j l p : ℕ) (o : Kept p) (rj rl : R) (x y : MemberKey S) → j < l → slice_get (rows m.left) j ≡ Some rj → slice_get (rows m.left) l ≡ Some rl → KeyIs (after m) 0 m.left j rj x → KeyIs (after m) 0 m.left l rl y
          → x.owner ≡ p → y.owner ≡ p → same_name y.name x.name ≡ true → same y.signature x.signature ≡ true → Twice (same_member_key same) (keys (before m)) m.inputs
      twice j l p o rj rl x y lt e f h g own own' named alike =
          let a = input_key p j o rj x e h own in
          let b = input_key p l o rl y f g own' in
          let up = lower count (before m) number_item m.kept (keeps count (before m) number_item m.kept) (number (at_row o.at.asm a.row)) (number (at_row o.at.asm b.row)) j l a.rank_is b.rank_is lt in
          let one : same_name (name b.r) (name a.r) ≡ true = (λ i. same_name (b.named i) (a.named i)) ∙ named in
          let two : same b.s a.s ≡ true = sym (same_moved b.s a.s) ∙ (λ i. same (b.moved i) (a.moved i)) ∙ alike in
          record {
            asm = o.at.asm;
            rec = o.there.rec;
            there = sym (before_input m o.at.asm o.earlier) ∙ o.there.here;
            first = a.row;
            second = b.row;
            less = omega (arith, up);
            x = Some (record { owner = o.at.row; name = name a.r; signature = a.s });
            y = Some (record { owner = o.at.row; name = name b.r; signature = b.s });
            one = numbered_at (key (before m) o.at.asm o.there.rec) 0 (rows o.there.rec) a.row a.r a.there ∙ ap (λ (n : ℕ). Some (key (before m) o.at.asm o.there.rec n a.r)) (zero_less a.row) ∙ ap (λ z. Some z) a.keyed;
            other = numbered_at (key (before m) o.at.asm o.there.rec) 0 (rows o.there.rec) b.row b.r b.there ∙ ap (λ (n : ℕ). Some (key (before m) o.at.asm o.there.rec n b.r)) (zero_less b.row) ∙ ap (λ z. Some z) b.keyed;
            alike = and_from (nat_eq o.at.row o.at.row && same_name (name b.r) (name a.r)) (same b.s a.s) (and_from (nat_eq o.at.row o.at.row) (same_name (name b.r) (name a.r)) (eq-eqb o.at.row o.at.row refl) one) two;
          }
        where
          zero_less : (n : ℕ) → 0 + n ≡ n
          zero_less n = omega arith

      back_by : (j l : ℕ) (rj rl : R) (x y : Option (MemberKey S)) → j < l → slice_get (rows m.left) j ≡ Some rj → slice_get (rows m.left) l ≡ Some rl → key (after m) 0 m.left j rj ≡ x → key (after m) 0 m.left l rl ≡ y
          → same_key (same_member_key same) y x ≡ true → Twice (same_member_key same) (keys (before m)) m.inputs
      back_by j l rj rl None None lt e f h g alike = absurd (cc)
      back_by j l rj rl (Some x) None lt e f h g alike = absurd (cc)
      back_by j l rj rl None (Some y) lt e f h g alike = absurd (cc)
      back_by j l rj rl (Some x) (Some y) lt e f h g alike =
          let p = and_parts (nat_eq y.owner x.owner && same_name y.name x.name) (same y.signature x.signature) alike in
          let q = and_parts (nat_eq y.owner x.owner) (same_name y.name x.name) p.0 in
          let a = key_is (after m) 0 m.left j rj x h in
          let b = key_is (after m) 0 m.left l rl y g in
          let own = first_is (λ (t : TypeDefRow). is_in_run (first t) (end t) (suc j)) m.left.type_def x.owner a.owner in
          let low = place_within m.left.type_def x.owner own.item own.there in
          let counted = (type_kind m is).counted in
          let o = kept_row types_in (before m) number_type m.kept x.owner (omega (arith, low, counted)) in
          twice j l x.owner o rj rl x y lt e f a b refl (eqb-true y.owner x.owner q.0) q.1 p.1

      pub keys_back : KeysBack (same_member_key same) (keys (before m)) (keys (after m) 0 m.left) m.inputs
      keys_back j l x y lt e f alike =
          let a = numbered_from (key (after m) 0 m.left) 0 (rows m.left) j x e in
          let b = numbered_from (key (after m) 0 m.left) 0 (rows m.left) l y f in
          back_by j l a.0 b.0 x y lt a.1 b.1 (ap (λ (n : ℕ). key (after m) 0 m.left n a.0) (zero_more j) ∙ a.2) (ap (λ (n : ℕ). key (after m) 0 m.left n b.0) (zero_more l) ∙ b.2) alike
        where
          zero_more : (n : ℕ) → n ≡ 0 + n
          zero_more n = omega arith
