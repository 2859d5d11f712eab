-- The texts of `#US` that bodies load are read again.
use Rattle.std.proofs.Common.{◌≡◌, ℕ, zero, suc, ◌+◌, ◌-◌, ◌*◌, ◌/◌, ◌%◌, ◌^◌, ◌<◌, ◌≤◌, true, false, Bool, cond, List, [], ◌∷◌, ◌++◌, map, length, take, Some, None, refl, sym, ap, ap₂, inl, inr, eq-or-lt_of_le, ◌∙◌, arith, length-append, ltb-true, lt-ltb, le-ltb}
use Rattle.std.specs.Prelude.{slice_get, bytes_eq, nat_lt, ◌==◌, ◌||◌}
use Rattle.std.specs.List.{flat_map, AllByRecursion}
use Rattle.std.proofs.lemmas.Bool.{false_from_ne_true, or_right, ltb-false}
use Rattle.std.proofs.lemmas.Slice.Eq.{bytes_eq-Decides}
use Rattle.std.proofs.lemmas.Option.{same_Some, none-some}
use Rattle.il_base.specs.blob_grammar.Numbers.{shortest}
use Rattle.il_base.specs.cli_format.Heaps.{user_string_of}
use Rattle.il_base.specs.declared.world_model.record.AsmRec.{AsmRec}
use Rattle.il_base.specs.declared.world_model.record.UserText.{UserText}
use Rattle.rules.specs.file_layout.Bytes.{zeros, aligned}
use Rattle.rules.specs.file_layout.Interning.{place_among}
use Rattle.rules.specs.file_layout.Heaps.{users_heap, user_item, user_place, units_bytes, last_byte}
use Rattle.rules.specs.record_format.Texts.{is_loaded, units_of, user_token, user_text_at, text_if_loaded, and_text, texts_below, text_offsets, all_texts}
use Rattle.file_laws.specs.written_tables.Written.{IsIn, UsersReadBack}
use Rattle.file_laws.proofs.lemmas.layout_laws.Within.{Within}
use Rattle.file_laws.proofs.lemmas.layout_laws.Lists.{mapped, of_mapped, item_within}

-- ---- units

units_again : (us : List ℕ) (last : ℕ) → AllByRecursion (λ u. u < 2 ^ 16) us → units_of (units_bytes us ++ last ∷ []) ≡ us
unfolding units_of
units_again [] last h = refl
units_again (u ∷ us) last h =
    let unit : u % 256 + 256 * (u / 256 % 256) ≡ u = omega (arith, h.0) in
    let rest = units_again us last h.1 in
    ap₂ (λ (a : ℕ) (b : List ℕ). a ∷ b) unit rest

units_long : (us : List ℕ) → length (units_bytes us) ≡ 2 * length us
units_long [] = refl
units_long (u ∷ us) = omega (arith, units_long us)

-- an item isn't empty
item_some : (us : List ℕ) → 2 * length us + 1 ≤ length (user_item us)
unfolding user_item
item_some us = omega (arith, units_long us, length-append (shortest (2 * length us + 1) ++ units_bytes us) (last_byte us ∷ []), length-append (shortest (2 * length us + 1)) (units_bytes us))

-- ---- places

abbrev Distinct : List (List ℕ) → Type 0
Distinct xs = (j k : ℕ) (x : List ℕ) → slice_get xs j ≡ Some x → slice_get xs k ≡ Some x → j ≡ k

place_of : (f : List ℕ → List ℕ) (xs : List (List ℕ)) (at k : ℕ) (x : List ℕ) → Distinct xs → slice_get xs k ≡ Some x → place_among f at xs x ≡ at + length (flat_map f (take k xs))
unfolding place_among
place_of f [] at k x once e = absurd (none-some x e)
place_of f (y ∷ ys) at zero x once e =
    let same : bytes_eq y x ≡ true = (bytes_eq-Decides y x).1 (same_Some y x e) in
    rw same (omega arith)
place_of f (y ∷ ys) at (suc k) x once e =
    let other : bytes_eq y x ≡ false = false_from_ne_true (bytes_eq y x) (λ t. omega (arith, once 0 (suc k) x (ap Some ((bytes_eq-Decides y x).0 t)) e)) in
    let rest = place_of f ys (at + length (f y)) k x (λ i j z p q. omega (arith, once (suc i) (suc j) z p q)) e in
    rw other (rest ∙ omega (arith, length-append (f y) (flat_map f (take k ys))))

-- ---- the texts below an offset, by their items' lengths

abbrev item_of : UserText → List ℕ
item_of t = user_item t.text

abbrev upto : ℕ → ℕ → List UserText → List UserText
upto n at [] = []
upto n at (t ∷ ts) = cond (nat_lt at n) (t ∷ upto n (at + length (item_of t)) ts) []

upto_none : (n at : ℕ) (ts : List UserText) → n ≤ at → upto n at ts ≡ []
upto_none n at [] le = refl
upto_none n at (t ∷ ts) le = let past : nat_lt at n ≡ false = le-ltb at n le in rw past refl

upto_hit : (ts : List UserText) (at k : ℕ) (t : UserText) (n : ℕ) → slice_get ts k ≡ Some t → n ≡ at + length (flat_map item_of (take k ts)) → upto (suc n) at ts ≡ upto n at ts ++ t ∷ []
upto_hit [] at k t n e f = absurd (none-some t e)
upto_hit (s ∷ ts) at zero t n e f =
    let place : n ≡ at = omega (arith, f) in
    let below : nat_lt at (suc n) ≡ true = lt-ltb at (suc n) (omega (arith, place)) in
    let past : nat_lt at n ≡ false = le-ltb at n (omega (arith, place)) in
    let rest = upto_none (suc n) (at + length (item_of s)) ts (omega (arith, place, item_some s.text)) in
    rw (below, past, rest) (ap (λ (x : UserText). x ∷ []) (same_Some s t e))
upto_hit (s ∷ ts) at (suc k) t n e f =
    let long = length-append (item_of s) (flat_map item_of (take k ts)) in
    let place : n ≡ at + length (item_of s) + length (flat_map item_of (take k ts)) = omega (arith, f, long) in
    let below : nat_lt at n ≡ true = lt-ltb at n (omega (arith, place, item_some s.text)) in
    let also : nat_lt at (suc n) ≡ true = lt-ltb at (suc n) (omega (arith, place)) in
    rw (below, also) (ap (λ (xs : List UserText). s ∷ xs) (upto_hit ts (at + length (item_of s)) k t n e place))

miss_by : (s : UserText) (ts : List UserText) (at n : ℕ) → (n ≡ at → ⊥) → upto (suc n) (at + length (item_of s)) ts ≡ upto n (at + length (item_of s)) ts
    → (b : Bool) → nat_lt at n ≡ b → upto (suc n) at (s ∷ ts) ≡ upto n at (s ∷ ts)
miss_by s ts at n other rest true e =
    let below = ltb-true at n e in
    let also : nat_lt at (suc n) ≡ true = lt-ltb at (suc n) (omega (arith, below)) in
    rw (e, also) (ap (λ (xs : List UserText). s ∷ xs) rest)
miss_by s ts at n other rest false e =
    let high = ltb-false at n e in
    elim (eq-or-lt_of_le high) [
      | inl f ↦ absurd (other f)
      | inr f ↦ (let past : nat_lt at (suc n) ≡ false = le-ltb at (suc n) f in rw (e, past) refl)
    ]

upto_miss : (ts : List UserText) (at n : ℕ) → ((k : ℕ) (t : UserText) → slice_get ts k ≡ Some t → n ≡ at + length (flat_map item_of (take k ts)) → ⊥) → upto (suc n) at ts ≡ upto n at ts
upto_miss [] at n h = refl
upto_miss (s ∷ ts) at n h =
    miss_by s ts at n (λ e. h 0 s refl (omega (arith, e)))
    (upto_miss ts (at + length (item_of s)) n (λ k t f g. h (suc k) t f (omega (arith, g, length-append (item_of s) (flat_map item_of (take k ts))))))
    (nat_lt at n) refl

upto_all : (ts : List UserText) (at n : ℕ) → at + length (flat_map item_of ts) ≤ n → upto n at ts ≡ ts
upto_all [] at n le = refl
upto_all (s ∷ ts) at n le =
    let long = length-append (item_of s) (flat_map item_of ts) in
    let low : nat_lt at n ≡ true = lt-ltb at n (omega (arith, le, long, item_some s.text)) in
    rw low (ap (λ (xs : List UserText). s ∷ xs) (upto_all ts (at + length (item_of s)) n (omega (arith, le, long))))

-- ---- one text

text_here : (user : List ℕ) (at : ℕ) (item : List ℕ) (t : UserText) → user_string_of user at ≡ Some item → length item % 2 ≡ 1 → units_of item ≡ t.text → t.token ≡ user_token at → user_text_at user at ≡ Some t
unfolding user_text_at
text_here user at item t e odd text token =
    let test : ((length item == 0) || (length item % 2 == 1)) ≡ true = or_right (length item == 0) (length item % 2 == 1) (rw odd refl) in
    let same : record { token = user_token at; text = units_of item } ≡ t = λ i. record { token = sym token i; text = text i } in
    rw (e, test) (ap Some same)

-- ---- all of them

flat_same : (ts : List UserText) → flat_map user_item (map (λ t. t.text) ts) ≡ flat_map item_of ts
flat_same [] = refl
flat_same (t ∷ ts) = ap (λ (xs : List ℕ). user_item t.text ++ xs) (flat_same ts)

taken : (ts : List UserText) (k : ℕ) → take k (map (λ t. t.text) ts) ≡ map (λ t. t.text) (take k ts)
taken ts zero = refl
taken [] (suc k) = refl
taken (t ∷ ts) (suc k) = ap (λ (xs : List (List ℕ)). t.text ∷ xs) (taken ts k)

-- the items are no longer than their heap
pub items_within : (texts : List (List ℕ)) → 1 + length (flat_map user_item texts) ≤ length (users_heap texts)
unfolding users_heap
items_within texts = omega (arith, length-append (flat_map user_item texts) (zeros (aligned 4 (length (0 ∷ flat_map user_item texts)) - length (0 ∷ flat_map user_item texts))))

module _ (rec : AsmRec) (h : Within rec) (reads : UsersReadBack (map (λ t. t.text) rec.user)) (small : length (users_heap (map (λ t. t.text) rec.user)) ≤ 2 ^ 24) where
  abbrev texts : List (List ℕ)
  texts = map (λ t. t.text) rec.user

  distinct : Distinct texts
  distinct j k x e f =
      let a = of_mapped (λ (t : UserText). t.text) rec.user j x e in
      let b = of_mapped (λ (t : UserText). t.text) rec.user k x f in
      h.can.texts.once j k a.0 b.0 a.1 b.1 (a.2 ∙ sym b.2)

  -- a text's offset, by the items before it
  offset : (k : ℕ) (t : UserText) → slice_get rec.user k ≡ Some t → user_place texts t.text ≡ 1 + length (flat_map item_of (take k rec.user))
  unfolding user_place
  offset k t e =
      place_of user_item texts 1 k t.text distinct (mapped (λ (t : UserText). t.text) rec.user k t e)
      ∙ ap (λ (xs : List (List ℕ)). 1 + length (flat_map user_item xs)) (taken rec.user k) ∙ ap (λ (xs : List ℕ). 1 + length xs) (flat_same (take k rec.user))

  read_at : (k : ℕ) (t : UserText) → slice_get rec.user k ≡ Some t → user_text_at (users_heap texts) (user_place texts t.text) ≡ Some t
  read_at k t e =
      let listed : IsIn texts t.text = (k, mapped (λ (t : UserText). t.text) rec.user k t e) in
      let short : 2 * length t.text + 1 < 2 ^ 29 = omega (arith, item_some t.text, item_within user_item texts t.text listed, items_within texts, small) in
      let long : length (units_bytes t.text ++ last_byte t.text ∷ []) ≡ 2 * length t.text + 1 = omega (arith, length-append (units_bytes t.text) (last_byte t.text ∷ []), units_long t.text) in
      text_here (users_heap texts) (user_place texts t.text) (units_bytes t.text ++ last_byte t.text ∷ []) t
      (reads.each t.text listed short) (omega (arith, long)) (units_again t.text (last_byte t.text) (h.can.texts.units k t e)) (h.can.texts.tokens k t e)

  if_loaded : (n : ℕ) → is_loaded rec.method_def (user_token n) ≡ true → text_if_loaded (users_heap texts) rec.method_def n ≡ user_text_at (users_heap texts) n
  if_loaded n e = rw e refl

  if_not : (n : ℕ) → is_loaded rec.method_def (user_token n) ≡ false → text_if_loaded (users_heap texts) rec.method_def n ≡ None
  if_not n e = rw e refl

  step_by : (n : ℕ) (b : Bool) → is_loaded rec.method_def (user_token n) ≡ b → and_text (upto n 1 rec.user) (text_if_loaded (users_heap texts) rec.method_def n) ≡ upto (suc n) 1 rec.user
  step_by n true e =
      let found = h.can.texts.only n e in
      let here : user_place texts found.1.text ≡ n = omega (arith, h.can.texts.tokens found.0 found.1 found.2, found.3) in
      let read : text_if_loaded (users_heap texts) rec.method_def n ≡ Some found.1 =
      if_loaded n e ∙ ap (user_text_at (users_heap texts)) (sym here) ∙ read_at found.0 found.1 found.2 in
      ap (and_text (upto n 1 rec.user)) read ∙ sym (upto_hit rec.user 1 found.0 found.1 n found.2 (sym here ∙ offset found.0 found.1 found.2))
  step_by n false e =
      let none : (k : ℕ) (t : UserText) → slice_get rec.user k ≡ Some t → n ≡ 1 + length (flat_map item_of (take k rec.user)) → ⊥ = λ k t f g.
      let token : t.token ≡ user_token n = omega (arith, h.can.texts.tokens k t f, offset k t f, g) in
      let loads : is_loaded rec.method_def (user_token n) ≡ true = rw (← token) (h.can.texts.loaded k t f) in
      cc in
      ap (and_text (upto n 1 rec.user)) (if_not n e) ∙ sym (upto_miss rec.user 1 n none)

  below : (n : ℕ) → texts_below (users_heap texts) rec.method_def n ≡ upto n 1 rec.user
  unfolding texts_below
  below zero = sym (upto_none 0 1 rec.user (omega arith))
  below (suc n) = ap (λ (ts : List UserText). and_text ts (text_if_loaded (users_heap texts) rec.method_def n)) (below n) ∙ step_by n (is_loaded rec.method_def (user_token n)) refl

  pub texts_read : all_texts (users_heap texts) rec.method_def ≡ rec.user
  texts_read = below (text_offsets (users_heap texts)) ∙ upto_all rec.user 1 (text_offsets (users_heap texts)) (omega (arith, small, items_within texts, ap length (flat_same rec.user)))
