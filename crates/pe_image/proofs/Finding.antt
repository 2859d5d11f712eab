-- The walk over section headers, one header at a time, and what is known of the section of an RVA.
use Rattle.std.proofs.Common.{◌≡◌, ℕ, zero, suc, ◌+◌, ◌-◌, ◌<◌, ◌≤◌, Bool, true, false, cond, List, length, Option, Some, None, refl, sym, arith}
use Rattle.std.specs.Prelude.{IfSome}
use Rattle.std.proofs.lemmas.Bool.Decides.{nat_tests}
use Rattle.il_base.specs.declared.cli_format.section.Section.{Section}
use Rattle.il_base.specs.cli_format.Demand.{first_fault, within}
use Rattle.il_base.specs.cli_format.Image.{nth_section, section_place, sections_from, section_of, sections_of, section_count, sections_demands, section_demands, covers}
use Rattle.il_base.proofs.lemmas.cli_format.Faults.{held_below, none_of_both, one_held}

found_step : (b : Bool) (x y : Option Section) → b ≡ false → cond b x y ≡ y
found_step true x y h = absurd cc
found_step false x y h = refl

here_step : (b : Bool) (x y : Option Section) → b ≡ true → cond b x y ≡ x
here_step true x y h = refl
here_step false x y h = absurd cc

pub starts : (bs : List ℕ) (n rva : ℕ) → n ≡ section_count bs → section_of (sections_from bs (n - 0) 0) rva ≡ section_of (sections_of bs) rva
unfolding sections_of
starts bs n rva e = let k : n - 0 ≡ section_count bs = omega arith in rw k refl

-- the section at i doesn't cover the RVA
pub passes : (bs : List ℕ) (n rva i : ℕ) → i < n → covers (nth_section bs i) rva ≡ false
    → section_of (sections_from bs (n - (i + 1)) (i + 1)) rva ≡ section_of (sections_from bs (n - i) i) rva
unfolding section_of sections_from
passes bs n rva i lt h =
    let k : n - i ≡ suc (n - (i + 1)) = omega arith in
    rw k (sym (found_step (covers (nth_section bs i) rva) (Some (nth_section bs i)) _ h))

-- the section at i covers the RVA
pub finds : (bs : List ℕ) (n rva i : ℕ) → i < n → covers (nth_section bs i) rva ≡ true
    → section_of (sections_from bs (n - i) i) rva ≡ Some (nth_section bs i)
unfolding section_of sections_from
finds bs n rva i lt h =
    let k : n - i ≡ suc (n - (i + 1)) = omega arith in
    rw k (here_step (covers (nth_section bs i) rva) (Some (nth_section bs i)) _ h)

-- no section is left
pub ends : (bs : List ℕ) (n rva i : ℕ) → n ≤ i → section_of (sections_from bs (n - i) i) rva ≡ None
unfolding section_of sections_from
ends bs n rva i le = let k : n - i ≡ 0 = omega arith in rw k refl

pub ruleset finding = (starts, passes, finds, ends)

-- ---- the section of an RVA

-- a section's raw bytes are within the file
raw_within : (bs : List ℕ) (i : ℕ) → first_fault (sections_demands bs) ≡ None → i < section_count bs → (nth_section bs i).raw + (nth_section bs i).raw_size ≤ length bs
unfolding sections_demands section_demands
raw_within bs i held lt =
    let one = held_below (section_demands bs) i (section_count bs) lt held in
    let both = none_of_both (within bs (section_place bs i) 40) (within bs (nth_section bs i).raw (nth_section bs i).raw_size) one in
    let h = one_held _ _ both.1 in
    grind (arith, nat_tests, h)

covered_from : (s : Section) (rva : ℕ) → covers s rva ≡ true → s.rva ≤ rva
unfolding covers
covered_from s rva h = grind (arith, nat_tests)

-- a section begins at an RVA or before, and its raw bytes are within the file
abbrev Lies : List ℕ → ℕ → Section → Type 0
Lies bs r s = (s.rva ≤ r) × (s.raw + s.raw_size ≤ length bs)

lies_step : (bs : List ℕ) (i r : ℕ) (b : Bool) (rest : Option Section) → covers (nth_section bs i) r ≡ b → first_fault (sections_demands bs) ≡ None → i < section_count bs
    → IfSome rest (Lies bs r) → IfSome (cond b (Some (nth_section bs i)) rest) (Lies bs r)
lies_step bs i r true rest e held l h = (covered_from (nth_section bs i) r e, raw_within bs i held l)
lies_step bs i r false rest e held l h = h

lies : (bs : List ℕ) (n i r : ℕ) → first_fault (sections_demands bs) ≡ None → i + n ≤ section_count bs → IfSome (section_of (sections_from bs n i) r) (Lies bs r)
unfolding sections_from section_of
lies bs zero i r held l = tt
lies bs (suc n) i r held l = lies_step bs i r (covers (nth_section bs i) r) _ refl held (omega arith) (lies bs n (i + 1) r held (omega arith))

found_lies : (bs : List ℕ) (r : ℕ) (o : Option Section) → first_fault (sections_demands bs) ≡ None → o ≡ section_of (sections_of bs) r → IfSome o (Lies bs r)
unfolding sections_of
found_lies bs r o held e = rw e (lies bs (section_count bs) 0 r held (omega arith))

-- the section that was found, by the bytes of the file as they are kept
of_kept : (bs kept : List ℕ) (r : ℕ) (o : Option Section) (s : Section) → o ≡ Some s → o ≡ section_of (sections_of bs) r → kept ≡ bs → first_fault (sections_demands kept) ≡ None → Lies kept r s
of_kept bs kept r o s e f k held = let h = rw e at (found_lies kept r o held (rw k f)) in h

pub lies_from : (bs kept : List ℕ) (r : ℕ) (o : Option Section) (s : Section) → o ≡ Some s → o ≡ section_of (sections_of bs) r → kept ≡ bs → first_fault (sections_demands kept) ≡ None → s.rva ≤ r
lies_from bs kept r o s e f k held = (of_kept bs kept r o s e f k held).0

pub lies_within : (bs kept : List ℕ) (r : ℕ) (o : Option Section) (s : Section) → o ≡ Some s → o ≡ section_of (sections_of bs) r → kept ≡ bs → first_fault (sections_demands kept) ≡ None
    → s.raw + s.raw_size ≤ length kept
lies_within bs kept r o s e f k held = (of_kept bs kept r o s e f k held).1

pub ruleset lying = (lies_from, lies_within)
