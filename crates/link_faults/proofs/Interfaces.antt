-- What a row of InterfaceImpl adds to the graph of interfaces.
use Rattle.std.proofs.Common.{◌≡◌, ℕ, zero, suc, ◌+◌, ◌-◌, ◌<◌, ◌≤◌, ◌==◌, nat_lt, Bool, true, false, List, [], ◌∷◌, ◌++◌, Option, Some, None, refl, sym, ap, ◌∙◌, arith, length, get_or, take, slice_set}
use Rattle.std.specs.Prelude.{if◌then◌else◌}
use Rattle.std.specs.List.{flat_map}
use Rattle.std.proofs.lemmas.List.{append-nil, take_more}
use Rattle.std.proofs.lemmas.Grind.{flat_map-append}
use Rattle.std.proofs.lemmas.Bool.{eq-eqb, ne_eqb, ltb-true, ltb-false}
use Rattle.std.proofs.lemmas.Bool.Decides.{same_from_decides, Decides-eqb, Decides-like}
use Rattle.il_base.specs.declared.world_model.types.TypeDefRow.{TypeDefRow}
use Rattle.il_base.specs.declared.world_model.types.InterfaceImplRow.{InterfaceImplRow}
use Rattle.il_base.specs.declared.world_model.record.AsmRec.{AsmRec}
use Rattle.il_base.specs.declared.world_model.world.TypeLink.{TypeLink}
use Rattle.il_base.specs.world_model.Tokens.{token_of}
use Rattle.rules.specs.link_rules.Cycles.{listed}
use Rattle.rules.specs.link_rules.Faults.{numbered}
use Rattle.link_faults.specs.Graphs.{next_in}
use Rattle.link_faults.specs.Supertypes.{interface_at, interfaces_by, place_of, led_on, interfaces_of}

-- ---- lists with a number for each item

pub numbered_like : {A B : Type 0} (f g : ℕ → A → B) (i : ℕ) (xs : List A) → ((k : ℕ) (x : A) → i ≤ k → f k x ≡ g k x) → numbered f i xs ≡ numbered g i xs
numbered_like f g i [] h = refl
numbered_like f g i (x ∷ xs) h = λ j. h i x (omega arith) j ∷ numbered_like f g (suc i) xs (λ k y le. h k y (omega arith)) j

module _ {A : Type 0} (f : ℕ → A → List ℕ) (ys : List ℕ) where
  abbrev with_more : ℕ → ℕ → A → List ℕ
  with_more n k x = f k x ++ (if k == n then ys else [])

  not_here : (n k : ℕ) (x : A) → (k ≡ n → ⊥) → f k x ≡ with_more n k x
  not_here n k x h = rw (ne_eqb k n h) (sym (append-nil (f k x)))

  here : (n k : ℕ) (x : A) → k ≡ n → f k x ++ ys ≡ with_more n k x
  here n k x h = rw (eq-eqb k n h) refl

  -- one node leads to more
  set_numbered : (xs : List A) (i n m : ℕ) → i + n ≡ m → slice_set (numbered f i xs) n (next_in (numbered f i xs) n ++ ys) ≡ numbered (with_more m) i xs
  set_numbered [] i n m e = refl
  set_numbered (x ∷ xs) i zero m e = λ j. here m i x (omega arith) j ∷ numbered_like f (with_more m) (suc i) xs (λ k y le. not_here m k y (λ e'. absurd (omega arith))) j
  set_numbered (x ∷ xs) i (suc n) m e = λ j. not_here m i x (λ e'. absurd (omega arith)) j ∷ set_numbered xs (suc i) n m (omega arith) j

-- ---- a row

module _ (all : List AsmRec) (links : List TypeLink) (flags : List Bool) (a : ℕ) (rows : List InterfaceImplRow) (row : InterfaceImplRow) where
  abbrev added : ℕ → List ℕ
  added k = if row.class == token_of 0x02 (suc k) then listed (interface_at all links flags a row.interface) else []

  one_more : (k : ℕ) (t : TypeDefRow) → interfaces_of all links flags a rows k t ++ added k ≡ interfaces_of all links flags a (rows ++ row ∷ []) k t
  one_more k t =
      ap (λ (xs : List ℕ). flat_map (interfaces_by all links flags a (token_of 0x02 (suc k))) rows ++ xs) (sym (append-nil (added k)))
      ∙ sym (flat_map-append (interfaces_by all links flags a (token_of 0x02 (suc k))) rows (row ∷ []))

  nothing : (k : ℕ) (t : TypeDefRow) → added k ≡ [] → interfaces_of all links flags a rows k t ≡ interfaces_of all links flags a (rows ++ row ∷ []) k t
  nothing k t e = sym (append-nil (interfaces_of all links flags a rows k t)) ∙ ap (λ (xs : List ℕ). interfaces_of all links flags a rows k t ++ xs) (sym e) ∙ one_more k t

  nothing_either : (b : Bool) → ◌≡◌ {A = List ℕ} (if b then [] else []) []
  nothing_either true = refl
  nothing_either false = refl

  place_test : (n k : ℕ) → 0x02000001 ≤ row.class → n ≡ row.class - 0x02000001 → (row.class == token_of 0x02 (suc k)) ≡ (k == n)
  place_test n k le e =
      same_from_decides (row.class == token_of 0x02 (suc k)) (k == n)
      (Decides-like _ (λ f. omega arith) (λ f. omega arith) (Decides-eqb row.class (token_of 0x02 (suc k))))
      (Decides-eqb k n)

  led_by : (ts : List TypeDefRow) (b : Bool) (to : Option ℕ) → nat_lt row.class 0x02000001 ≡ b → interface_at all links flags a row.interface ≡ to
      → led_on (numbered (interfaces_of all links flags a rows) 0 ts) (if b then None else Some (row.class - 0x02000001)) to ≡ numbered (interfaces_of all links flags a (rows ++ row ∷ [])) 0 ts
  led_by ts true to e f =
      numbered_like (interfaces_of all links flags a rows) (interfaces_of all links flags a (rows ++ row ∷ [])) 0 ts
      (λ k t le. let lt = ltb-true row.class 0x02000001 e in nothing k t (rw (ne_eqb row.class (token_of 0x02 (suc k)) (λ g. absurd (omega arith))) refl))
  led_by ts false None e f =
      numbered_like (interfaces_of all links flags a rows) (interfaces_of all links flags a (rows ++ row ∷ [])) 0 ts
      (λ k t le. nothing k t (rw f (nothing_either (row.class == token_of 0x02 (suc k)))))
  led_by ts false (Some to) e f =
      let le = ltb-false row.class 0x02000001 e in
      let n : ℕ = row.class - 0x02000001 in
      set_numbered (interfaces_of all links flags a rows) (to ∷ []) ts 0 n n (omega arith)
      ∙ numbered_like (with_more (interfaces_of all links flags a rows) (to ∷ []) n) (interfaces_of all links flags a (rows ++ row ∷ [])) 0 ts
      (λ k t z. ap (λ (b : Bool). interfaces_of all links flags a rows k t ++ (if b then to ∷ [] else [])) (sym (place_test n k le refl))
      ∙ ap (λ (o : Option ℕ). interfaces_of all links flags a rows k t ++ (if row.class == token_of 0x02 (suc k) then listed o else [])) (sym f)
      ∙ one_more k t)

  pub led_more : (ts : List TypeDefRow) → led_on (numbered (interfaces_of all links flags a rows) 0 ts) (place_of row.class) (interface_at all links flags a row.interface) ≡ numbered (interfaces_of all links flags a (rows ++ row ∷ [])) 0 ts
  led_more ts = led_by ts (nat_lt row.class 0x02000001) (interface_at all links flags a row.interface) refl refl

-- one row after the other
pub led_step : (all : List AsmRec) (links : List TypeLink) (flags : List Bool) (a : ℕ) (rows : List InterfaceImplRow) (i : ℕ) (d : InterfaceImplRow) (graph new : List (List ℕ)) (ts : List TypeDefRow) → i < length rows
    → graph ≡ numbered (interfaces_of all links flags a (take i rows)) 0 ts → new ≡ led_on graph (place_of (get_or rows i d).class) (interface_at all links flags a (get_or rows i d).interface)
    → new ≡ numbered (interfaces_of all links flags a (take (i + 1) rows)) 0 ts
led_step all links flags a rows i d graph new ts lt e f =
    let row = get_or rows i d in
    f ∙ ap (λ (g : List (List ℕ)). led_on g (place_of row.class) (interface_at all links flags a row.interface)) e ∙ led_more all links flags a (take i rows) row ts
    ∙ ap (λ (rs : List InterfaceImplRow). numbered (interfaces_of all links flags a rs) 0 ts) (sym (take_more rows i d lt))
