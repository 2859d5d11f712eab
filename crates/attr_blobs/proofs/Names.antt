-- Marks, one by one.
use Rattle.std.proofs.Common.{◌≡◌, ◌<◌, ◌≤◌, ◌+◌, ◌-◌, ℕ, suc, List, [], ◌∷◌, ◌++◌, Bool, true, false, Option, Some, None, length, get_or, take, drop, refl, ap, sym, subst, ◌∙◌, arith, add-one, drop-cons, append_assoc, append-nil, cond, not, if◌then◌else◌, encode_utf8, nat_lt, position, ltb-false, zero}
use Rattle.std.proofs.lemmas.List.{take_rest}
use Rattle.std.proofs.Math.Seq.{take-suc}
use Rattle.std.proofs.Math.ListN.{drop_of_length-le}
use Rattle.std.specs.List.{position_or_len, list_any}
use Rattle.std.specs.Char.Utf16.{utf16_chars, lone_unit_char, surrogate_pair_char}
use Rattle.attr_blobs.specs.declared.mark.Mark.{Mark}
use Rattle.attr_blobs.specs.TypeNames.{mark, marks, begins_taken, begins_pair, is_sign, letter_of, text_of, in_front, cut, parts, longer, texts_of, with_text, filled, cut_by, is_blank, without_front, without_end, opens_other, assembly_of, named, name_of}
use Rattle.attr_blobs.specs.declared.name.NameRead.TheVariants.{Other}

-- a text, and what stands after it
abbrev pub behind_text : List ℕ → Option (List ℕ) → Option (List ℕ)
behind_text text None = None
behind_text text (Some rest) = Some (text ++ rest)

-- the slice from n on, as the code takes it
abbrev pub from : {A : Type 0} → ℕ → List A → List A
from n xs = take (length xs - n) (drop n xs)

pub from_is : {A : Type 0} (n : ℕ) (xs : List A) → from n xs ≡ drop n xs
from_is n xs = take_rest xs n

-- a loop that puts one more element after what it has
pub step : {A B : Type 0} (f : List A → List B) (done new : List B) (b : B) (xs rest : List A) (all : List B) → f xs ≡ b ∷ f rest → new ≡ done ++ b ∷ [] → done ++ f xs ≡ all → new ++ f rest ≡ all
step f done new b xs rest all e n h = ap (λ v. v ++ f rest) n ∙ append_assoc done (b ∷ []) (f rest) ∙ ap (λ v. done ++ v) (sym e) ∙ h

-- a loop that has come to the end
pub stop : {A B : Type 0} (f : List A → List B) (done : List B) (xs : List A) (all : List B) → f [] ≡ [] → length xs ≡ 0 → done ++ f xs ≡ all → done ≡ all
stop f done [] all z e h = sym (append-nil done) ∙ ap (λ v. done ++ v) (sym z) ∙ h
stop f done (x ∷ xs) all z e h = absurd (omega arith)

marks_two : (xs : List (Option ℕ)) (d : Option ℕ) → begins_taken xs ≡ true → marks xs ≡ mark (get_or xs 1 d) true ∷ marks (drop 2 xs)
unfolding marks
marks_two [] d e = cc
marks_two (x ∷ []) d e = cc
marks_two (x ∷ y ∷ xs) d e = rw e refl

marks_one : (xs : List (Option ℕ)) (d : Option ℕ) → 0 < length xs → begins_taken xs ≡ false → marks xs ≡ mark (get_or xs 0 d) false ∷ marks (drop 1 xs)
unfolding marks
marks_one [] d h e = absurd (omega arith)
marks_one (x ∷ []) d h e = refl
marks_one (x ∷ y ∷ xs) d h e = rw e refl

pub took : (done new : List Mark) (xs : List (Option ℕ)) (d : Option ℕ) (all : List Mark) → begins_taken xs ≡ true →
    new ≡ done ++ mark (get_or xs 1 d) true ∷ [] → done ++ marks xs ≡ all → new ++ marks (from 2 xs) ≡ all
took done new xs d all e n h = step marks done new (mark (get_or xs 1 d) true) xs (from 2 xs) all (marks_two xs d e ∙ ap (λ v. mark (get_or xs 1 d) true ∷ marks v) (sym (from_is 2 xs))) n h

pub left : (done new : List Mark) (xs : List (Option ℕ)) (d : Option ℕ) (all : List Mark) → 0 < length xs → begins_taken xs ≡ false →
    new ≡ done ++ mark (get_or xs 0 d) false ∷ [] → done ++ marks xs ≡ all → new ++ marks (from 1 xs) ≡ all
left done new xs d all l e n h = step marks done new (mark (get_or xs 0 d) false) xs (from 1 xs) all (marks_one xs d l e ∙ ap (λ v. mark (get_or xs 0 d) false ∷ marks v) (sym (from_is 1 xs))) n h

pub marks_end : (done : List Mark) (xs : List (Option ℕ)) (all : List Mark) → length xs ≡ 0 → done ++ marks xs ≡ all → done ≡ all
unfolding marks
marks_end done xs all e h = stop marks done xs all refl e h

letters_two : (xs : List ℕ) → begins_pair xs ≡ true → utf16_chars xs ≡ Some (surrogate_pair_char (get_or xs 0 0) (get_or xs 1 0)) ∷ utf16_chars (drop 2 xs)
unfolding utf16_chars
letters_two [] e = cc
letters_two (x ∷ []) e = cc
letters_two (x ∷ y ∷ xs) e = rw e refl

letters_one : (xs : List ℕ) → 0 < length xs → begins_pair xs ≡ false → utf16_chars xs ≡ lone_unit_char (get_or xs 0 0) ∷ utf16_chars (drop 1 xs)
unfolding utf16_chars
letters_one [] h e = absurd (omega arith)
letters_one (x ∷ []) h e = refl
letters_one (x ∷ y ∷ xs) h e = rw e refl

pub paired : (done new : List (Option ℕ)) (xs : List ℕ) (all : List (Option ℕ)) → begins_pair xs ≡ true →
    new ≡ done ++ Some (surrogate_pair_char (get_or xs 0 0) (get_or xs 1 0)) ∷ [] → done ++ utf16_chars xs ≡ all → new ++ utf16_chars (from 2 xs) ≡ all
paired done new xs all e n h = step utf16_chars done new _ xs (from 2 xs) all (letters_two xs e ∙ ap (λ (v : List ℕ). Some (surrogate_pair_char (get_or xs 0 0) (get_or xs 1 0)) ∷ utf16_chars v) (sym (from_is 2 xs))) n h

pub alone : (done new : List (Option ℕ)) (xs : List ℕ) (all : List (Option ℕ)) → 0 < length xs → begins_pair xs ≡ false →
    new ≡ done ++ lone_unit_char (get_or xs 0 0) ∷ [] → done ++ utf16_chars xs ≡ all → new ++ utf16_chars (from 1 xs) ≡ all
alone done new xs all l e n h = step utf16_chars done new _ xs (from 1 xs) all (letters_one xs l e ∙ ap (λ (v : List ℕ). lone_unit_char (get_or xs 0 0) ∷ utf16_chars v) (sym (from_is 1 xs))) n h

pub letters_end : (done : List (Option ℕ)) (xs : List ℕ) (all : List (Option ℕ)) → length xs ≡ 0 → done ++ utf16_chars xs ≡ all → done ≡ all
unfolding utf16_chars
letters_end done xs all e h = stop utf16_chars done xs all refl e h

pub text_step : (xs : List Mark) (i : ℕ) (d : Mark) (t : List ℕ) (c : ℕ) (all : Option (List ℕ)) → i < length xs → letter_of (get_or xs i d) ≡ Some c →
    behind_text t (text_of (drop i xs)) ≡ all → behind_text (t ++ encode_utf8 c) (text_of (drop (i + 1) xs)) ≡ all
unfolding text_of
text_step xs i d t c all l e h =
    let z : drop i xs ≡ get_or xs i d ∷ drop (i + 1) xs = rw (add-one, drop-cons xs i d) refl in
    let k : behind_text t (text_of (get_or xs i d ∷ drop (i + 1) xs)) ≡ all = subst (λ (v : List Mark). behind_text t (text_of v) ≡ all) z h in
    let G : Option (List ℕ) → Type 0 = λ o. behind_text t (in_front (Some c) o) ≡ behind_text (t ++ encode_utf8 c) o in
    let g : G (text_of (drop (i + 1) xs)) = elim (text_of (drop (i + 1) xs)) as G [ None ↦ refl | Some r ↦ ap (λ v. Some v) (sym (append_assoc t (encode_utf8 c) r)) ] in
    sym g ∙ subst (λ (o : Option ℕ). behind_text t (in_front o (text_of (drop (i + 1) xs))) ≡ all) e k

pub text_none : (xs : List Mark) (i : ℕ) (d : Mark) (t : List ℕ) (all : Option (List ℕ)) → i < length xs → letter_of (get_or xs i d) ≡ None →
    behind_text t (text_of (drop i xs)) ≡ all → None ≡ all
unfolding text_of
text_none xs i d t all l e h =
    let z : drop i xs ≡ get_or xs i d ∷ drop (i + 1) xs = rw (add-one, drop-cons xs i d) refl in
    let k : behind_text t (text_of (get_or xs i d ∷ drop (i + 1) xs)) ≡ all = subst (λ (v : List Mark). behind_text t (text_of v) ≡ all) z h in
    subst (λ (o : Option ℕ). behind_text t (in_front o (text_of (drop (i + 1) xs))) ≡ all) e k

pub text_end : (xs : List Mark) (i : ℕ) (t : List ℕ) (all : Option (List ℕ)) → i ≡ length xs → behind_text t (text_of (drop i xs)) ≡ all → Some t ≡ all
unfolding text_of
text_end xs i t all e h =
    let z : drop i xs ≡ [] = drop_of_length-le xs (omega arith) in
    let k : behind_text t (text_of []) ≡ all = subst (λ (v : List Mark). behind_text t (text_of v) ≡ all) z h in
    ap (λ v. Some v) (sym (append-nil t)) ∙ k

-- where the first sign of a kind stands
cut_at : (code : ℕ) (ms : List Mark) (i : ℕ) → i ≡ position_or_len (is_sign code) ms → i < length ms → cut code ms ≡ (take i ms, Some (drop (i + 1) ms))
unfolding cut
cut_at code [] i e h = absurd (omega arith)
cut_at code (m ∷ ms) zero e h =
    let G : Bool → Type 0 = λ b. 0 ≡ cond (not b) (1 + position_or_len (is_sign code) ms) 0 → cut_by b m ms (cut code ms) ≡ ([], Some ms) in
    (elim (is_sign code m) as G [ true ↦ λ k. refl | false ↦ λ k. absurd (omega arith) ]) e
cut_at code (m ∷ ms) (suc i) e h =
    let G : Bool → Type 0 = λ b. suc i ≡ cond (not b) (1 + position_or_len (is_sign code) ms) 0 → cut_by b m ms (cut code ms) ≡ (m ∷ take i ms, Some (drop (suc i + 1) (m ∷ ms))) in
    (elim (is_sign code m) as G [
      | true ↦ λ k. absurd (omega arith)
      | false ↦ λ k. let r = cut_at code ms i (omega arith) (omega arith) in let s : suc i + 1 ≡ suc (i + 1) = omega arith in rw (s, r) refl
    ]) e

cut_none : (code : ℕ) (ms : List Mark) → length ms ≤ position_or_len (is_sign code) ms → cut code ms ≡ (ms, None)
unfolding cut
cut_none code [] h = refl
cut_none code (m ∷ ms) h =
    let G : Bool → Type 0 = λ b. suc (length ms) ≤ cond (not b) (1 + position_or_len (is_sign code) ms) 0 → cut_by b m ms (cut code ms) ≡ (m ∷ ms, None) in
    (elim (is_sign code m) as G [
      | true ↦ λ k. absurd (omega arith)
      | false ↦ λ k. let r = cut_none code ms (omega arith) in rw r refl
    ]) h

cut_found : (code : ℕ) (ms : List Mark) (i : ℕ) → Some i ≡ position (is_sign code) ms → i < length ms → cut code ms ≡ (take i ms, Some (drop (i + 1) ms))
cut_found code ms i =
    let L : ℕ = position_or_len (is_sign code) ms in
    let G : Bool → Type 0 = λ b. Some i ≡ cond b (Some L) None → i < length ms → cut code ms ≡ (take i ms, Some (drop (i + 1) ms)) in
    elim (nat_lt L (length ms)) as G [ true ↦ λ e h. let k : i ≡ L = cc in cut_at code ms i k h | false ↦ λ e h. cc ]

cut_missing : (code : ℕ) (ms : List Mark) → None ≡ position (is_sign code) ms → cut code ms ≡ (ms, None)
cut_missing code ms =
    let L : ℕ = position_or_len (is_sign code) ms in
    let G : Bool → Type 0 = λ b. nat_lt L (length ms) ≡ b → None ≡ cond b (Some L) None → cut code ms ≡ (ms, None) in
    (elim (nat_lt L (length ms)) as G [ true ↦ λ e h. cc | false ↦ λ e h. cut_none code ms (ltb-false L (length ms) e) ]) refl

abbrev Cut : Type 0
Cut = List Mark × Option (List Mark)

pub found_front : (code : ℕ) (ms : List Mark) (i : ℕ) → Some i ≡ position (is_sign code) ms → i < length ms → take i ms ≡ (cut code ms).0
found_front code ms i e h = sym (ap (λ (p : Cut). p.0) (cut_found code ms i e h))

pub found_behind : (code : ℕ) (ms : List Mark) (i : ℕ) → Some i ≡ position (is_sign code) ms → i < length ms → Some (from (i + 1) ms) ≡ (cut code ms).1
found_behind code ms i e h = ap (λ (v : List Mark). Some v) (from_is (i + 1) ms) ∙ sym (ap (λ (p : Cut). p.1) (cut_found code ms i e h))

pub missing_front : (code : ℕ) (ms : List Mark) → None ≡ position (is_sign code) ms → ms ≡ (cut code ms).0
missing_front code ms e = sym (ap (λ (p : Cut). p.0) (cut_missing code ms e))

pub missing_behind : (code : ℕ) (ms : List Mark) → None ≡ position (is_sign code) ms → None ≡ (cut code ms).1
missing_behind code ms e = sym (ap (λ (p : Cut). p.1) (cut_missing code ms e))

-- blanks at the front
pub front_step : (xs : List Mark) (d : Mark) (all : List Mark) → 0 < length xs → is_blank (get_or xs 0 d) ≡ true → without_front xs ≡ all → without_front (from 1 xs) ≡ all
unfolding without_front
front_step [] d all l e h = absurd (omega arith)
front_step (x ∷ xs) d all l e h =
    let k : (if true then without_front xs else x ∷ xs) ≡ all = subst (λ (b : Bool). (if b then without_front xs else x ∷ xs) ≡ all) e h in
    ap without_front (from_is 1 (x ∷ xs)) ∙ k

pub front_stop : (xs : List Mark) (d : Mark) (all : List Mark) → 0 < length xs → is_blank (get_or xs 0 d) ≡ false → without_front xs ≡ all → xs ≡ all
unfolding without_front
front_stop [] d all l e h = absurd (omega arith)
front_stop (x ∷ xs) d all l e h = subst (λ (b : Bool). (if b then without_front xs else x ∷ xs) ≡ all) e h

pub front_end : (xs all : List Mark) → length xs ≡ 0 → without_front xs ≡ all → xs ≡ all
unfolding without_front
front_end [] all e h = h
front_end (x ∷ xs) all e h = absurd (omega arith)

-- blanks at the end
end_blank : (ys : List Mark) (m : Mark) → is_blank m ≡ true → without_end (ys ++ m ∷ []) ≡ without_end ys
unfolding without_end
end_blank [] m e = rw e refl
end_blank (y ∷ ys) m e = rw (end_blank ys m e) refl

end_other : (ys : List Mark) (m : Mark) → is_blank m ≡ false → without_end (ys ++ m ∷ []) ≡ ys ++ m ∷ []
unfolding without_end
end_other [] m e = rw e refl
end_other (y ∷ []) m e = rw (end_other [] m e) refl
end_other (y ∷ z ∷ ys) m e = rw (end_other (z ∷ ys) m e) refl

one_more : (xs : List Mark) (n : ℕ) (d : Mark) → 0 < n → n ≤ length xs → take n xs ≡ take (n - 1) xs ++ get_or xs (n - 1) d ∷ []
one_more xs n d p h =
    let k : n ≡ suc (n - 1) = omega arith in
    let l : n - 1 < length xs = omega arith in
    ap (λ (v : ℕ). take v xs) k ∙ take-suc xs (n - 1) d l

pub end_step : (xs : List Mark) (n : ℕ) (d : Mark) (all : List Mark) → 0 < n → n ≤ length xs → is_blank (get_or xs (n - 1) d) ≡ true → without_end (take n xs) ≡ all → without_end (take (n - 1) xs) ≡ all
end_step xs n d all p l e h = sym (end_blank (take (n - 1) xs) (get_or xs (n - 1) d) e) ∙ sym (ap without_end (one_more xs n d p l)) ∙ h

pub end_stop : (xs : List Mark) (n : ℕ) (d : Mark) (all : List Mark) → 0 < n → n ≤ length xs → is_blank (get_or xs (n - 1) d) ≡ false → without_end (take n xs) ≡ all → take n xs ≡ all
end_stop xs n d all p l e h = one_more xs n d p l ∙ sym (end_other (take (n - 1) xs) (get_or xs (n - 1) d) e) ∙ sym (ap without_end (one_more xs n d p l)) ∙ h

pub end_empty : (xs all : List Mark) (n : ℕ) → n ≡ 0 → without_end (take n xs) ≡ all → [] ≡ all
unfolding without_end
end_empty xs all n e h = subst (λ (v : ℕ). without_end (take v xs) ≡ all) e h

-- the parts after a `+`
abbrev pub parts_behind : Option (List Mark) → List (List Mark)
parts_behind None = []
parts_behind (Some ms) = parts ms

parts_cut : (ms : List Mark) → parts ms ≡ (cut 43 ms).0 ∷ parts_behind (cut 43 ms).1
unfolding parts cut
parts_cut [] = refl
parts_cut (m ∷ ms) =
    let G : Bool → Type 0 = λ b. (if b then [] ∷ parts ms else longer m (parts ms)) ≡ (cut_by b m ms (cut 43 ms)).0 ∷ parts_behind (cut_by b m ms (cut 43 ms)).1 in
    elim (is_sign 43 m) as G [ true ↦ refl | false ↦ rw (parts_cut ms) refl ]

-- names, and what stands after them
abbrev pub behind_path : List (List ℕ) → Option (List (List ℕ)) → Option (List (List ℕ))
behind_path path None = None
behind_path path (Some rest) = Some (path ++ rest)

path_is : (path : List (List ℕ)) (ms : List Mark) (part : List Mark) (behind : Option (List Mark)) (t : Option (List ℕ)) (all : Option (List (List ℕ))) →
    part ≡ (cut 43 ms).0 → behind ≡ (cut 43 ms).1 → t ≡ filled (text_of part) → behind_path path (texts_of (parts ms)) ≡ all →
    behind_path path (with_text t (texts_of (parts_behind behind))) ≡ all
unfolding texts_of
path_is path ms part behind t all p b e h =
    let f : filled (text_of (cut 43 ms).0) ≡ t = ap (λ (v : List Mark). filled (text_of v)) (sym p) ∙ sym e in
    let k : behind_path path (texts_of ((cut 43 ms).0 ∷ parts_behind (cut 43 ms).1)) ≡ all = subst (λ (v : List (List Mark)). behind_path path (texts_of v) ≡ all) (parts_cut ms) h in
    let l : behind_path path (with_text t (texts_of (parts_behind (cut 43 ms).1))) ≡ all = subst (λ (v : Option (List ℕ)). behind_path path (with_text v (texts_of (parts_behind (cut 43 ms).1))) ≡ all) f k in
    subst (λ (v : Option (List Mark)). behind_path path (with_text t (texts_of (parts_behind v))) ≡ all) (sym b) l

pub path_step : (path : List (List ℕ)) (ms part behind : List Mark) (t : List ℕ) (all : Option (List (List ℕ))) →
    part ≡ (cut 43 ms).0 → Some behind ≡ (cut 43 ms).1 → Some t ≡ filled (text_of part) → behind_path path (texts_of (parts ms)) ≡ all →
    behind_path (path ++ t ∷ []) (texts_of (parts behind)) ≡ all
path_step path ms part behind t all p b e h =
    let G : Option (List (List ℕ)) → Type 0 = λ o. behind_path (path ++ t ∷ []) o ≡ behind_path path (with_text (Some t) o) in
    let g : G (texts_of (parts behind)) = elim (texts_of (parts behind)) as G [ None ↦ refl | Some r ↦ ap (λ (v : List (List ℕ)). Some v) (append_assoc path (t ∷ []) r) ] in
    g ∙ path_is path ms part (Some behind) (Some t) all p b e h

pub path_none : (path : List (List ℕ)) (ms part : List Mark) (behind : Option (List Mark)) (all : Option (List (List ℕ))) →
    part ≡ (cut 43 ms).0 → behind ≡ (cut 43 ms).1 → None ≡ filled (text_of part) → behind_path path (texts_of (parts ms)) ≡ all → None ≡ all
path_none path ms part behind all p b e h = path_is path ms part behind None all p b e h

pub path_end : (path : List (List ℕ)) (ms part : List Mark) (t : List ℕ) (all : Option (List (List ℕ))) →
    part ≡ (cut 43 ms).0 → None ≡ (cut 43 ms).1 → Some t ≡ filled (text_of part) → behind_path path (texts_of (parts ms)) ≡ all → Some (path ++ t ∷ []) ≡ all
unfolding texts_of
path_end path ms part t all p b e h = path_is path ms part None (Some t) all p b e h

pub name_named : (letters : List (Option ℕ)) (front : List Mark) (behind : Option (List Mark)) (path : Option (List (List ℕ))) (asm : Option (Option (List ℕ))) →
    front ≡ (cut 44 (marks letters)).0 → behind ≡ (cut 44 (marks letters)).1 → list_any opens_other front ≡ false → path ≡ texts_of (parts front) → asm ≡ assembly_of behind →
    named path asm ≡ name_of letters
name_named letters front behind path asm f b o p a =
    let x : Cut = cut 44 (marks letters) in
    let k : list_any opens_other x.0 ≡ false = subst (λ (v : List Mark). list_any opens_other v ≡ false) f o in
    let l : path ≡ texts_of (parts x.0) = subst (λ (v : List Mark). path ≡ texts_of (parts v)) f p in
    let m : asm ≡ assembly_of x.1 = subst (λ (v : Option (List Mark)). asm ≡ assembly_of v) b a in
    let n : named path asm ≡ named (texts_of (parts x.0)) (assembly_of x.1) = ap (λ (v : Option (List (List ℕ))). named v asm) l ∙ ap (λ (v : Option (Option (List ℕ))). named (texts_of (parts x.0)) v) m in
    n ∙ sym (subst (λ (v : Bool). (if v then Other else named (texts_of (parts x.0)) (assembly_of x.1)) ≡ named (texts_of (parts x.0)) (assembly_of x.1)) (sym k) refl)

pub name_other : (letters : List (Option ℕ)) (front : List Mark) → front ≡ (cut 44 (marks letters)).0 → list_any opens_other front ≡ true → Other ≡ name_of letters
name_other letters front f o =
    let x : Cut = cut 44 (marks letters) in
    let k : list_any opens_other x.0 ≡ true = subst (λ (v : List Mark). list_any opens_other v ≡ true) f o in
    sym (subst (λ (v : Bool). (if v then Other else named (texts_of (parts x.0)) (assembly_of x.1)) ≡ Other) (sym k) refl)
