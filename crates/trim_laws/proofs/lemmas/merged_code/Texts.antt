-- A text that a kept method loads (III.4.16) is found in the output by its new token: each text has a place of its own, which a token holds.
use Rattle.std.proofs.Common.{◌≡◌, ◌<◌, ◌≤◌, ℕ, zero, suc, List, [], ◌∷◌, length, map, find, Some, None, inl, inr, refl, ap, subst, ◌∙◌, arith, eq-eqb, eqb-true}
use Rattle.std.specs.Prelude.{slice_get}
use Rattle.std.specs.List.{Contains, flat_map}
use Rattle.il_base.specs.declared.body.Body.{Body}
use Rattle.il_base.specs.declared.body.Instr.{Instr}
use Rattle.il_base.specs.declared.world_model.known.Known.TheVariants.{Good}
use Rattle.il_base.specs.declared.world_model.members.MethodDefRow.{MethodDefRow}
use Rattle.il_base.specs.declared.world_model.record.UserText.{UserText}
use Rattle.il_base.specs.declared.world_model.record.AsmRec.{AsmRec}
use Rattle.rules.specs.file_layout.Interning.{each_once}
use Rattle.rules.specs.file_layout.Heaps.{users_heap, user_place}
use Rattle.rules.specs.record_layout.Limits.{limit_of}
use Rattle.rules.specs.declared.link_rules.row_at.RowAt.{RowAt}
use Rattle.rules.specs.link_rules.Cycles.{listed}
use Rattle.rules.specs.link_rules.Members.{methods_in}
use Rattle.rules.specs.type_rules.Rows.{rec_at}
use Rattle.base_laws.proofs.lemmas.type_laws.Within.{In}
use Rattle.base_laws.proofs.lemmas.known_laws.Lists.{to_flat, to_option}
use Rattle.rules.specs.mark_rules.Places.{method_item}
use Rattle.rules.specs.mark_rules.Bodies.{body_of}
use Rattle.rules.specs.view_rules.Code.{is_token}
use Rattle.rules.specs.merge_rules.Numbers.{kept_methods}
use Rattle.rules.specs.merge_rules.Moved.{texts_by, texts_of_body, texts_of_method, kept_texts, text_token}
use Rattle.rules.specs.merge_rules.Restricted.{new_text, output_of}
use Rattle.file_laws.proofs.lemmas.written_tables.Once.{once_law}
use Rattle.merge_laws.proofs.lemmas.merged_loads.Lists.{to_place}
use Rattle.trim_laws.proofs.lemmas.merged_code.Lists.{found_only}
use Rattle.trim_laws.proofs.lemmas.merged_code.Places.{user_place_within, user_places_apart}
use Rattle.merge_laws.proofs.lemmas.merged_record.Lists.{OfInput}
use Rattle.merge_laws.proofs.lemmas.merged_record.Owned.{to_kept}
use Rattle.merge_laws.proofs.lemmas.merged_loads.Limits.{users_few}
use Rattle.merge_laws.proofs.lemmas.merged_places.Rows.{place_within}
use Rattle.merge_laws.proofs.lemmas.merged_places.Worlds.{left_is}
use Rattle.rules.specs.merged_world_rules.Merge.{Merge, IsMerge, before, output}
use Rattle.trim_laws.proofs.lemmas.merged_code.Operands.{IsText}
use Rattle.trim_laws.proofs.lemmas.merged_code.Kept.{IsKept, body_in}

in_place : {A : Type 0} (xs : List A) (k : ℕ) (x : A) → slice_get xs k ≡ Some x → In x xs
in_place [] k x e = absurd (cc)
in_place (y ∷ xs) zero x e = inl (let same : x ≡ y = cc in same)
in_place (y ∷ xs) (suc k) x e = inr (in_place xs k x e)

module _ (m : Merge) (is : IsMerge m) (within : limit_of m.left ≡ None) where
  abbrev texts : List (List ℕ)
  texts = kept_texts (output m)

  user_is : m.left.user ≡ map (new_text (output m)) (kept_texts (output m))
  user_is = ap (λ (r : AsmRec). r.user) (left_is m is).is

  same_texts : (xs : List (List ℕ)) → map (λ (t : UserText). t.text) (map (new_text (output m)) xs) ≡ xs
  same_texts [] = refl
  same_texts (x ∷ xs) = ap (λ (ys : List (List ℕ)). x ∷ ys) (same_texts xs)

  short : length (users_heap (kept_texts (output m))) ≤ 16777216
  short =
      subst (λ (us : List (List ℕ)). length (users_heap us) ≤ 16777216) (ap (λ (us : List UserText). map (λ (t : UserText). t.text) us) user_is ∙ same_texts (kept_texts (output m)))
      (users_few m.left within)

  -- two texts of one token are one
  apart : (u v : List ℕ) → In u (kept_texts (output m)) → In v (kept_texts (output m)) → text_token (output m) u ≡ text_token (output m) v → u ≡ v
  apart u v h g e =
      let low : user_place (kept_texts (output m)) u < length (users_heap (kept_texts (output m))) = user_place_within (kept_texts (output m)) u h in
      let small : user_place (kept_texts (output m)) v < length (users_heap (kept_texts (output m))) = user_place_within (kept_texts (output m)) v g in
      let few = short in
      user_places_apart (kept_texts (output m)) u v h g (omega (arith, e, low, small, few))

  pub text_found : (u : List ℕ) → In u (kept_texts (output m)) → IsText m u
  text_found u h =
      ap (find (is_token (text_token (output m) u))) user_is
      ∙ found_only (new_text (output m)) (is_token (text_token (output m) u)) u (kept_texts (output m)) (λ y g e. apart y u g h (eqb-true (text_token (output m) y) (text_token (output m) u) e))
      (eq-eqb (text_token (output m) u) (text_token (output m) u) refl) h

  -- ---- of a kept method

  module _ (at : RowAt) (rec : AsmRec) (row : MethodDefRow) (h : IsKept m at rec row) (b : Body) (has : row.body ≡ Some (Good b)) (i : Instr) (inside : Contains b.code i) where
    of_method : (u : List ℕ) → Contains (texts_by rec i.form i.operand) u → Contains (texts_of_method (before m) at) u
    of_method u c =
        to_option (λ (r : AsmRec). flat_map (λ (d : MethodDefRow). flat_map (texts_of_body r) (body_of d)) (listed (slice_get r.method_def at.row))) (rec_at (before m) at) rec u h.there
        (to_option (λ (d : MethodDefRow). flat_map (texts_of_body rec) (body_of d)) (slice_get rec.method_def at.row) row u h.is
        (to_flat (texts_of_body rec) (body_of row) u
        (record { item = b; there = body_in row b has; inside = to_flat (λ (j : Instr). texts_by rec j.form j.operand) b.code u (record { item = i; there = inside; inside = c }) })))

    in_kept : Contains (kept_methods (before m) m.kept) at
    unfolding kept_methods
    in_kept =
        let input : OfInput (before m) at.asm rec = record { there = h.there; within = h.input } in
        to_kept methods_in (method_item (before m)) (before m) m.kept at rec input (place_within rec.method_def at.row row h.is) h.keeps

    among : (u : List ℕ) → Contains (texts_by rec i.form i.operand) u → In u (kept_texts (output m))
    unfolding kept_texts output_of
    among u c =
        let all : List (List ℕ) = flat_map (texts_of_method (before m)) (kept_methods (before m) m.kept) in
        let p = (once_law all).all u (to_place all u (to_flat (texts_of_method (before m)) (kept_methods (before m) m.kept) u (record { item = at; there = in_kept; inside = of_method u c }))) in
        in_place (each_once all) p.0 u p.1

    pub text_there : (u : List ℕ) → Contains (texts_by rec i.form i.operand) u → IsText m u
    text_there u c = text_found u (among u c)
