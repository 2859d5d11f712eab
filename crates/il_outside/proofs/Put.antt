-- What stands in a folder in memory after a write.
use Rattle.std.proofs.Common.{◌≡◌, ◌≢◌, ◌<◌, ◌≤◌, ◌+◌, ℕ, List, [], ◌∷◌, ◌++◌, Bool, true, false, Some, None, length, cond, not, refl, ap, subst, add_comm, add-one, arith, slice_set, position, sym, if◌then◌else◌, ◌∙◌, nat_lt, ltb-false, suc, take, inr}
use Rattle.std.specs.Option.{option_map}
use Rattle.std.specs.List.{position_or_len, find}
use Rattle.std.specs.Str.{bytes_eq}
use Rattle.std.proofs.lemmas.Slice.Eq.{bytes_eq-Decides}
use Rattle.il_outside.specs.declared.mem_folder.NamedFile.{NamedFile}
use Rattle.il_outside.specs.Folder.{SameOthers, LeavesPrefix}
use Rattle.il_outside.specs.Memory.{is_named, file_in, put_file}

abbrev file_of : List ℕ → List ℕ → NamedFile
file_of name bytes = record { name = name; bytes = bytes }

set_step : (f g : NamedFile) (fs rest : List NamedFile) (p : ℕ) → slice_set fs p g ≡ rest → slice_set (f ∷ fs) (1 + p) g ≡ f ∷ rest
set_step f g fs rest p e = let z : 1 + p ≡ suc p = add_comm 1 p ∙ add-one p in rw z (ap {B = List NamedFile} (λ r. f ∷ r) e)

-- where a file of the name is there, its place gets the new one
pub put_set : (name bytes : List ℕ) (fs : List NamedFile) → position_or_len (is_named name) fs < length fs →
    slice_set fs (position_or_len (is_named name) fs) (file_of name bytes) ≡ put_file fs name bytes
put_set name bytes [] h = absurd (omega arith)
put_set name bytes (f ∷ fs) h =
    let P : ℕ = position_or_len (is_named name) fs in
    let G : Bool → Type 0 = λ b. cond (not b) (1 + P) 0 < suc (length fs) →
    slice_set (f ∷ fs) (cond (not b) (1 + P) 0) (file_of name bytes) ≡ (if b then file_of name bytes ∷ fs else f ∷ put_file fs name bytes) in
    (elim (is_named name f) as G [ true ↦ λ h. refl | false ↦ λ h. set_step f (file_of name bytes) fs _ P (put_set name bytes fs (omega arith)) ]) h

-- where none is there, the new one goes to the end
pub put_end : (name bytes : List ℕ) (fs : List NamedFile) → length fs ≤ position_or_len (is_named name) fs →
    fs ++ file_of name bytes ∷ [] ≡ put_file fs name bytes
put_end name bytes [] h = refl
put_end name bytes (f ∷ fs) h =
    let P : ℕ = position_or_len (is_named name) fs in
    let G : Bool → Type 0 = λ b. suc (length fs) ≤ cond (not b) (1 + P) 0 →
    f ∷ (fs ++ file_of name bytes ∷ []) ≡ (if b then file_of name bytes ∷ fs else f ∷ put_file fs name bytes) in
    (elim (is_named name f) as G [ true ↦ λ h. absurd (omega arith) | false ↦ λ h. ap {B = List NamedFile} (λ r. f ∷ r) (put_end name bytes fs (omega arith)) ]) h

named_itself : (name : List ℕ) → bytes_eq name name ≡ true
named_itself name = (bytes_eq-Decides name name).1 refl

pub put_same : (name bytes : List ℕ) (fs : List NamedFile) → file_in (put_file fs name bytes) name ≡ Some bytes
put_same name bytes [] = rw (named_itself name) refl
put_same name bytes (f ∷ fs) =
    let G : Bool → Type 0 = λ b. is_named name f ≡ b → file_in (if b then file_of name bytes ∷ fs else f ∷ put_file fs name bytes) name ≡ Some bytes in
    (elim (is_named name f) as G [ true ↦ λ e. rw (named_itself name) refl | false ↦ λ e. rw e (put_same name bytes fs) ]) refl

unnamed : (name other : List ℕ) → other ≢ name → bytes_eq name other ≡ false
unnamed name other ne =
    let G : Bool → Type 0 = λ b. bytes_eq name other ≡ b → b ≡ false in
    (elim (bytes_eq name other) as G [ true ↦ λ e. absurd (ne (sym ((bytes_eq-Decides name other).0 e))) | false ↦ λ e. refl ]) refl

other_behind : (f : NamedFile) (fs gs : List NamedFile) (other : List ℕ) → file_in gs other ≡ file_in fs other → file_in (f ∷ gs) other ≡ file_in (f ∷ fs) other
other_behind f fs gs other e =
    let G : Bool → Type 0 = λ b. option_map (λ (g : NamedFile). g.bytes) (cond b (Some f) (find (is_named other) gs)) ≡ option_map (λ (g : NamedFile). g.bytes) (cond b (Some f) (find (is_named other) fs)) in
    elim (is_named other f) as G [ true ↦ refl | false ↦ e ]

pub put_other : (name bytes : List ℕ) (fs : List NamedFile) (other : List ℕ) → other ≢ name → file_in (put_file fs name bytes) other ≡ file_in fs other
put_other name bytes [] other ne = rw (unnamed name other ne) refl
put_other name bytes (f ∷ fs) other ne =
    let G : Bool → Type 0 = λ b. is_named name f ≡ b → file_in (if b then file_of name bytes ∷ fs else f ∷ put_file fs name bytes) other ≡ file_in (f ∷ fs) other in
    (elim (is_named name f) as G [
      | true ↦ λ e. let same : f.name ≡ name = (bytes_eq-Decides f.name name).0 e in
          let gone : bytes_eq f.name other ≡ false = subst (λ (n : List ℕ). bytes_eq n other ≡ false) (sym same) (unnamed name other ne) in
          rw (unnamed name other ne, gone) refl
      | false ↦ λ e. other_behind f fs (put_file fs name bytes) other (put_other name bytes fs other ne)
    ]) refl

-- where the file of the name is, the new one is put
pub placed : (name bytes : List ℕ) (fs : List NamedFile) (i : ℕ) → Some i ≡ position (is_named name) fs → i < length fs → slice_set fs i (file_of name bytes) ≡ put_file fs name bytes
placed name bytes fs i =
    let L : ℕ = position_or_len (is_named name) fs in
    let G : Bool → Type 0 = λ b. Some i ≡ cond b (Some L) None → i < length fs → slice_set fs i (file_of name bytes) ≡ put_file fs name bytes in
    elim (nat_lt L (length fs)) as G [
      | true ↦ λ e h. let k : i ≡ L = cc in rw k (put_set name bytes fs (subst (λ (n : ℕ). n < length fs) k h))
      | false ↦ λ e h. cc
    ]

-- where there is none, it comes to the end
pub added : (name bytes : List ℕ) (fs : List NamedFile) → None ≡ position (is_named name) fs → fs ++ file_of name bytes ∷ [] ≡ put_file fs name bytes
added name bytes fs =
    let L : ℕ = position_or_len (is_named name) fs in
    let G : Bool → Type 0 = λ b. nat_lt L (length fs) ≡ b → None ≡ cond b (Some L) None → fs ++ file_of name bytes ∷ [] ≡ put_file fs name bytes in
    (elim (nat_lt L (length fs)) as G [
      | true ↦ λ e h. cc
      | false ↦ λ e h. put_end name bytes fs (ltb-false L (length fs) e)
    ]) refl

pub wrote : (old new : List NamedFile) (name bytes : List ℕ) → new ≡ put_file old name bytes →
    (file_in new name ≡ Some bytes) × SameOthers (file_in old) (file_in new) name
wrote old new name bytes e =
    let P : List NamedFile → Type 0 = λ fs. (file_in fs name ≡ Some bytes) × SameOthers (file_in old) (file_in fs) name in
    subst P (sym e) (put_same name bytes old, λ other ne. put_other name bytes old other ne)

pub wrote_prefix : (old new : List NamedFile) (name bytes : List ℕ) (k : ℕ) → new ≡ put_file old name (take k bytes) →
    LeavesPrefix (file_in old) (file_in new) name bytes × SameOthers (file_in old) (file_in new) name
wrote_prefix old new name bytes k e = let w = wrote old new name (take k bytes) e in (inr (k, w.0), w.1)
