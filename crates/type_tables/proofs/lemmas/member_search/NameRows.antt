-- A row put at the end of those with its name.
use Rattle.std.proofs.Common.{◌≡◌, ℕ, List, [], ◌∷◌, ◌++◌, Bool, true, false, Option, Some, None, refl, ap, ◌∙◌}
use Rattle.std.specs.Prelude.{bytes_eq, if◌then◌else◌}
use Rattle.std.specs.HashMap.{HashMap, get_by}
use Rattle.std.specs.Map.{update}
use Rattle.std.specs.Borrow.{Bor}
use Rattle.std.proofs.lemmas.Slice.Eq.{bytes_eq-Decides}
use Rattle.type_tables.specs.member_search.Names.{rows_at}

module _ {S : Type 0} (old mid new : HashMap (Bor (List ℕ)) (List ℕ) S) (name : List ℕ) where
  abbrev Others : Type 0
  Others = (q : List ℕ) → bytes_eq name q ≡ false → rows_at mid q ≡ rows_at old q

  -- the look-ups after a change at the name
  abbrev Changes : HashMap (Bor (List ℕ)) (List ℕ) S → HashMap (Bor (List ℕ)) (List ℕ) S → Option (List ℕ) → Type 0
  Changes m n w = (q : List ℕ) → get_by (λ key. bytes_eq q key.now) n ≡ update bytes_eq (λ ds. get_by (λ key. bytes_eq ds key.now) m) name w q

  pub taken_others : Changes old mid None → Others
  taken_others changes q e = rw (changes q, e) refl

  put_at : (rows : List ℕ) (row : ℕ) (q : List ℕ) (b : Bool) → bytes_eq name q ≡ b → rows ≡ rows_at old name → Others → Changes mid new (Some (rows ++ row ∷ []))
      → rows_at new q ≡ (if b then rows_at old q ++ row ∷ [] else rows_at old q)
  put_at rows row q true e taken others changes =
      let same : name ≡ q = (bytes_eq-Decides name q).0 e in
      rw (changes q, e) (ap (λ (l : List ℕ). l ++ row ∷ []) (taken ∙ ap (rows_at old) same))
  put_at rows row q false e taken others changes = rw (changes q, e) (others q e)

  pub put_rows : (rows : List ℕ) (row : ℕ) → rows ≡ rows_at old name → Others → Changes mid new (Some (rows ++ row ∷ []))
      → (q : List ℕ) → rows_at new q ≡ (if bytes_eq name q then rows_at old q ++ row ∷ [] else rows_at old q)
  put_rows rows row taken others changes q = put_at rows row q (bytes_eq name q) refl taken others changes
