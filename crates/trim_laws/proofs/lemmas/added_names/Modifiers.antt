-- The types that a signature over the types of the world names: each is no name that only modifiers use (II.7.1.1), or a modifier's.
use Rattle.std.proofs.Common.{◌≡◌, ℕ, zero, suc, List, [], ◌∷◌, ◌++◌, map, Bool, true, not, ◌⊎◌, inl, inr, refl, sym, ap, subst, ◌∙◌}
use Rattle.std.specs.List.{flat_map}
use Rattle.il_base.specs.declared.ids.TypeId.{TypeId}
use Rattle.il_base.specs.declared.ids.Item.TheVariants as item
use Rattle.il_base.specs.declared.sig.Sig.{Sig, fold-Sig, fold-roll-Sig, ind-Sig, roll-Sig}
use Rattle.il_base.specs.declared.sig.Sig.TheFolds.{map-Sig}
use Rattle.il_base.specs.declared.sig.Sig.TheOpen.{Sig-F}
use Rattle.il_base.specs.declared.sig.Sig.TheVariants as sig
use Rattle.il_base.specs.declared.world_model.record.AsmRec.{AsmRec}
use Rattle.rules.specs.link_rules.CoreNames.{modifiers_layer, modifiers}
use Rattle.base_laws.proofs.lemmas.type_laws.Within.{In, in_front, in_behind, in_parts, in_flat}
use Rattle.rules.specs.mark_rules.Facts.Fact.{marked}
use Rattle.run_laws.specs.marked_laws.Flags.{is_added}
use Rattle.rules.specs.merge_rules.Keys.{class_number, modifier_number, world_layer, world_sig}
use Rattle.rules.specs.merge_rules.Refs.{Output, numbers_layer, numbers_in, type_of_number, types_of_sig, type_token, number_token, new_sig_layer, new_sig}

numbers_are : (x : Sig-F Sig) (s : Sig) → roll-Sig x ≡ s → numbers_in s ≡ numbers_layer (map-Sig Sig (List ℕ) numbers_in x)
unfolding numbers_in
numbers_are x s e = ap (fold-Sig (List ℕ) numbers_layer) (sym e) ∙ fold-roll-Sig (List ℕ) numbers_layer x

modifiers_are : (x : Sig-F Sig) (s : Sig) → roll-Sig x ≡ s → modifiers s ≡ modifiers_layer (map-Sig Sig (List ℕ) modifiers x)
unfolding modifiers
modifiers_are x s e = ap (fold-Sig (List ℕ) modifiers_layer) (sym e) ∙ fold-roll-Sig (List ℕ) modifiers_layer x

module _ (recs : List AsmRec) where
  -- a number that isn't that of a name that only modifiers use
  abbrev pub is_listed : ℕ → Bool
  is_listed zero = true
  is_listed (suc t) = not (is_added recs (marked (item.Typ (record { 0 = t }))))

  -- each of these numbers is listed, or one of those
  pub record Fine (ns ms : List ℕ) : Type 0 where
    pub each : (n : ℕ) → In n ns → (is_listed n ≡ true) ⊎ In n ms

  pub fine_none : (ms : List ℕ) → Fine [] ms
  fine_none ms = record { each = λ n h. absurd h }

  listed_by : (n k : ℕ) (ns ms : List ℕ) → is_listed n ≡ true → Fine ns ms → (k ≡ n) ⊎ In k ns → (is_listed k ≡ true) ⊎ In k ms
  listed_by n k ns ms l f (inl e) = inl (ap is_listed e ∙ l)
  listed_by n k ns ms l f (inr h) = f.each k h

  pub fine_listed : (n : ℕ) (ns ms : List ℕ) → is_listed n ≡ true → Fine ns ms → Fine (n ∷ ns) ms
  fine_listed n ns ms l f = record { each = λ k h. listed_by n k ns ms l f h }

  pub fine_one : (n : ℕ) → is_listed n ≡ true → Fine (n ∷ []) []
  fine_one n l = fine_listed n [] [] l (fine_none [])

  behind : (n k : ℕ) (ms : List ℕ) → (is_listed k ≡ true) ⊎ In k ms → (is_listed k ≡ true) ⊎ ((k ≡ n) ⊎ In k ms)
  behind n k ms (inl l) = inl l
  behind n k ms (inr h) = inr (inr h)

  modifier_by : (n k : ℕ) (ns ms : List ℕ) → Fine ns ms → (k ≡ n) ⊎ In k ns → (is_listed k ≡ true) ⊎ ((k ≡ n) ⊎ In k ms)
  modifier_by n k ns ms f (inl e) = inr (inl e)
  modifier_by n k ns ms f (inr h) = behind n k ms (f.each k h)

  pub fine_modifier : (n : ℕ) (ns ms : List ℕ) → Fine ns ms → Fine (n ∷ ns) (n ∷ ms)
  fine_modifier n ns ms f = record { each = λ k h. modifier_by n k ns ms f h }

  first_of : (k : ℕ) (ms vs : List ℕ) → (is_listed k ≡ true) ⊎ In k ms → (is_listed k ≡ true) ⊎ In k (ms ++ vs)
  first_of k ms vs (inl l) = inl l
  first_of k ms vs (inr h) = inr (in_front k ms vs h)

  last_of : (k : ℕ) (ms vs : List ℕ) → (is_listed k ≡ true) ⊎ In k vs → (is_listed k ≡ true) ⊎ In k (ms ++ vs)
  last_of k ms vs (inl l) = inl l
  last_of k ms vs (inr h) = inr (in_behind k ms vs h)

  join_by : (k : ℕ) (ns ms us vs : List ℕ) → Fine ns ms → Fine us vs → In k ns ⊎ In k us → (is_listed k ≡ true) ⊎ In k (ms ++ vs)
  join_by k ns ms us vs f g (inl h) = first_of k ms vs (f.each k h)
  join_by k ns ms us vs f g (inr h) = last_of k ms vs (g.each k h)

  pub fine_join : (ns ms us vs : List ℕ) → Fine ns ms → Fine us vs → Fine (ns ++ us) (ms ++ vs)
  fine_join ns ms us vs f g = record { each = λ k h. join_by k ns ms us vs f g (in_parts k ns us h) }

  -- ---- signatures

  abbrev pub IsFine : Sig → Type 0
  IsFine s = Fine (numbers_in s) (modifiers s)

  pub of_layer : (x : Sig-F Sig) (s : Sig) → roll-Sig x ≡ s → Fine (numbers_layer (map-Sig Sig (List ℕ) numbers_in x)) (modifiers_layer (map-Sig Sig (List ℕ) modifiers x)) → IsFine s
  of_layer x s e f = subst (λ (ns : List ℕ). Fine ns (modifiers s)) (sym (numbers_are x s e)) (subst (λ (ms : List ℕ). Fine (numbers_layer (map-Sig Sig (List ℕ) numbers_in x)) ms) (sym (modifiers_are x s e)) f)

  -- a signature of an assembly whose tokens name no such type but by modifiers
  module _ (a : ℕ) (rec : AsmRec) (class : (token : ℕ) → is_listed (class_number recs a rec token) ≡ true) where
    abbrev world : Sig → Sig
    world = world_sig recs a rec

    abbrev Part : Type 0
    Part = (s : Sig) × IsFine (world s)

    abbrev plain : List Part → List Sig
    plain xs = map (λ x. x.0) xs

    args_fine : (xs : List Part) → Fine (flat_map (λ ns. ns) (map numbers_in (map world (plain xs)))) (flat_map (λ ns. ns) (map modifiers (map world (plain xs))))
    args_fine [] = fine_none []
    args_fine (x ∷ xs) =
        fine_join (numbers_in (world x.0)) (modifiers (world x.0)) (flat_map (λ ns. ns) (map numbers_in (map world (plain xs)))) (flat_map (λ ns. ns) (map modifiers (map world (plain xs)))) x.1 (args_fine xs)

    layer_fine : (y : Sig-F Part) → IsFine (world_layer recs a rec (map-Sig Sig Sig world (map-Sig Part Sig (λ x. x.0) y)))
    layer_fine (Sig-F.Prim n) = of_layer (Sig-F.Prim n) (sig.Prim n) (sig.rolls-Prim n) (fine_none [])
    layer_fine (Sig-F.Named v token) =
        let k : ℕ = class_number recs a rec token in of_layer (Sig-F.Named v k) (sig.Named v k) (sig.rolls-Named v k) (fine_one k (class token))
    layer_fine (Sig-F.Array x) = of_layer (Sig-F.Array (world x.0)) (sig.Array (world x.0)) (sig.rolls-Array (world x.0)) x.1
    layer_fine (Sig-F.ByRef x) = of_layer (Sig-F.ByRef (world x.0)) (sig.ByRef (world x.0)) (sig.rolls-ByRef (world x.0)) x.1
    layer_fine (Sig-F.Inst v token xs) =
        let k : ℕ = class_number recs a rec token in
        let ss : List Sig = map world (plain xs) in
        of_layer (Sig-F.Inst v k ss) (sig.Inst v k ss) (sig.rolls-Inst v k ss)
        (fine_listed k (flat_map (λ ns. ns) (map numbers_in ss)) (flat_map (λ ns. ns) (map modifiers ss)) (class token) (args_fine xs))
    layer_fine (Sig-F.Var n) = of_layer (Sig-F.Var n) (sig.Var n) (sig.rolls-Var n) (fine_none [])
    layer_fine (Sig-F.MVar n) = of_layer (Sig-F.MVar n) (sig.MVar n) (sig.rolls-MVar n) (fine_none [])
    layer_fine (Sig-F.Mod required token x) =
        let k : ℕ = modifier_number recs a rec token in
        of_layer (Sig-F.Mod required k (world x.0)) (sig.Mod required k (world x.0)) (sig.rolls-Mod required k (world x.0)) (fine_modifier k (numbers_in (world x.0)) (modifiers (world x.0)) x.1)
    layer_fine (Sig-F.Pinned x) = of_layer (Sig-F.Pinned (world x.0)) (sig.Pinned (world x.0)) (sig.rolls-Pinned (world x.0)) x.1

    rolled : (y : Sig-F Part) → IsFine (world (roll-Sig (map-Sig Part Sig (λ x. x.0) y)))
    unfolding world_sig
    rolled y = subst (λ (s : Sig). IsFine s) (sym (fold-roll-Sig Sig (world_layer recs a rec) (map-Sig Part Sig (λ x. x.0) y))) (layer_fine y)

    pub world_fine : (s : Sig) → IsFine (world_sig recs a rec s)
    world_fine = ind-Sig (λ (s : Sig). IsFine (world s)) (λ x y is. subst (λ z. IsFine (world (roll-Sig z))) is (rolled y))

-- ---- the modifiers of what is written

module _ (o : Output) where
  -- the tokens of these numbers are among those
  record Written (ns ms : List ℕ) : Type 0 where
    each : (n : ℕ) → In n ns → In (number_token o n) ms

  written_none : Written [] []
  written_none = record { each = λ n h. h }

  more_by : (n k : ℕ) (ns ms : List ℕ) → Written ns ms → (k ≡ n) ⊎ In k ns → (number_token o k ≡ number_token o n) ⊎ In (number_token o k) ms
  more_by n k ns ms w (inl e) = inl (ap (number_token o) e)
  more_by n k ns ms w (inr h) = inr (w.each k h)

  written_more : (n : ℕ) (ns ms : List ℕ) → Written ns ms → Written (n ∷ ns) (number_token o n ∷ ms)
  written_more n ns ms w = record { each = λ k h. more_by n k ns ms w h }

  both_by : (k : ℕ) (ns ms us vs : List ℕ) → Written ns ms → Written us vs → In k ns ⊎ In k us → In (number_token o k) (ms ++ vs)
  both_by k ns ms us vs f g (inl h) = in_front (number_token o k) ms vs (f.each k h)
  both_by k ns ms us vs f g (inr h) = in_behind (number_token o k) ms vs (g.each k h)

  written_join : (ns ms us vs : List ℕ) → Written ns ms → Written us vs → Written (ns ++ us) (ms ++ vs)
  written_join ns ms us vs f g = record { each = λ k h. both_by k ns ms us vs f g (in_parts k ns us h) }

  abbrev IsWritten : Sig → Type 0
  IsWritten s = Written (modifiers s) (modifiers (new_sig o s))

  new_is : (x : Sig-F Sig) → new_sig o (roll-Sig x) ≡ new_sig_layer o (map-Sig Sig Sig (new_sig o) x)
  unfolding new_sig
  new_is x = fold-roll-Sig Sig (new_sig_layer o) x

  abbrev Piece : Type 0
  Piece = (s : Sig) × IsWritten s

  abbrev bare : List Piece → List Sig
  bare xs = map (λ x. x.0) xs

  args_written : (xs : List Piece) → Written (flat_map (λ ns. ns) (map modifiers (bare xs))) (flat_map (λ ns. ns) (map modifiers (map (new_sig o) (bare xs))))
  args_written [] = written_none
  args_written (x ∷ xs) =
      written_join (modifiers x.0) (modifiers (new_sig o x.0)) (flat_map (λ ns. ns) (map modifiers (bare xs))) (flat_map (λ ns. ns) (map modifiers (map (new_sig o) (bare xs)))) x.1 (args_written xs)

  from_layers : (x : Sig-F Sig) (z : Sig-F Sig) (t : Sig) → roll-Sig z ≡ t → new_sig o (roll-Sig x) ≡ t
      → Written (modifiers_layer (map-Sig Sig (List ℕ) modifiers x)) (modifiers_layer (map-Sig Sig (List ℕ) modifiers z)) → IsWritten (roll-Sig x)
  from_layers x z t e f w =
      subst (λ (ns : List ℕ). Written ns (modifiers (new_sig o (roll-Sig x)))) (sym (modifiers_are x (roll-Sig x) refl))
      (subst (λ (ms : List ℕ). Written (modifiers_layer (map-Sig Sig (List ℕ) modifiers x)) ms) (sym (ap modifiers f ∙ modifiers_are z t e)) w)

  layer_written : (y : Sig-F Piece) → IsWritten (roll-Sig (map-Sig Piece Sig (λ x. x.0) y))
  layer_written (Sig-F.Prim n) = from_layers (Sig-F.Prim n) (Sig-F.Prim n) (sig.Prim n) (sig.rolls-Prim n) (new_is (Sig-F.Prim n)) written_none
  layer_written (Sig-F.Named v n) =
      let k : ℕ = number_token o n in from_layers (Sig-F.Named v n) (Sig-F.Named v k) (sig.Named v k) (sig.rolls-Named v k) (new_is (Sig-F.Named v n)) written_none
  layer_written (Sig-F.Array x) =
      let s : Sig = new_sig o x.0 in from_layers (Sig-F.Array x.0) (Sig-F.Array s) (sig.Array s) (sig.rolls-Array s) (new_is (Sig-F.Array x.0)) x.1
  layer_written (Sig-F.ByRef x) =
      let s : Sig = new_sig o x.0 in from_layers (Sig-F.ByRef x.0) (Sig-F.ByRef s) (sig.ByRef s) (sig.rolls-ByRef s) (new_is (Sig-F.ByRef x.0)) x.1
  layer_written (Sig-F.Inst v n xs) =
      let k : ℕ = number_token o n in
      let ss : List Sig = map (new_sig o) (bare xs) in
      from_layers (Sig-F.Inst v n (bare xs)) (Sig-F.Inst v k ss) (sig.Inst v k ss) (sig.rolls-Inst v k ss) (new_is (Sig-F.Inst v n (bare xs))) (args_written xs)
  layer_written (Sig-F.Var n) = from_layers (Sig-F.Var n) (Sig-F.Var n) (sig.Var n) (sig.rolls-Var n) (new_is (Sig-F.Var n)) written_none
  layer_written (Sig-F.MVar n) = from_layers (Sig-F.MVar n) (Sig-F.MVar n) (sig.MVar n) (sig.rolls-MVar n) (new_is (Sig-F.MVar n)) written_none
  layer_written (Sig-F.Mod required n x) =
      let k : ℕ = number_token o n in
      let s : Sig = new_sig o x.0 in
      from_layers (Sig-F.Mod required n x.0) (Sig-F.Mod required k s) (sig.Mod required k s) (sig.rolls-Mod required k s) (new_is (Sig-F.Mod required n x.0)) (written_more n (modifiers x.0) (modifiers s) x.1)
  layer_written (Sig-F.Pinned x) =
      let s : Sig = new_sig o x.0 in from_layers (Sig-F.Pinned x.0) (Sig-F.Pinned s) (sig.Pinned s) (sig.rolls-Pinned s) (new_is (Sig-F.Pinned x.0)) x.1

  all_written : (s : Sig) → IsWritten s
  all_written = ind-Sig (λ (s : Sig). IsWritten s) (λ x y is. subst (λ z. IsWritten (roll-Sig z)) is (layer_written y))

  pub modifier_written : (s : Sig) (n : ℕ) → In n (modifiers s) → In (number_token o n) (modifiers (new_sig o s))
  modifier_written s n h = (all_written s).each n h

  -- ---- a type of a signature

  of_number : (n : ℕ) (t : TypeId) → In t (type_of_number n) → n ≡ suc t.0
  of_number zero t h = absurd h
  of_number (suc k) t (inl e) = ap (λ (u : TypeId). suc u.0) (sym e)
  of_number (suc k) t (inr h) = absurd h

  module _ (recs : List AsmRec) (s : Sig) (t : TypeId) where
    used_by : (n : ℕ) → n ≡ suc t.0 → (is_listed recs n ≡ true) ⊎ In n (modifiers s) → (is_listed recs (suc t.0) ≡ true) ⊎ In (type_token o t) (modifiers (new_sig o s))
    used_by n e (inl l) = inl (ap (is_listed recs) (sym e) ∙ l)
    used_by n e (inr h) = inr (subst (λ (k : ℕ). In k (modifiers (new_sig o s))) (ap (number_token o) e) (modifier_written s n h))

    -- it is listed, or its token is a modifier of what is written
    pub type_used : IsFine recs s → In t (types_of_sig s) → (is_listed recs (suc t.0) ≡ true) ⊎ In (type_token o t) (modifiers (new_sig o s))
    type_used f h =
        let m = in_flat type_of_number t (numbers_in s) h in
        used_by m.0 (of_number m.0 t m.2) (f.each m.0 m.1)
