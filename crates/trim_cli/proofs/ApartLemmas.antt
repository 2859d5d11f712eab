-- Where words read as those of `trim`, the keep list has another name than OUT.
use Rattle.std.proofs.Common.{◌≡◌, ℕ, zero, suc, ◌+◌, ◌<◌, List, [], ◌∷◌, length, drop, get_or, Bool, true, false, Option, Some, None, Result, Ok, Err, refl, sym, ap, ◌∙◌, arith}
use Rattle.std.specs.Prelude.{codes, is_none, not, ◌&&◌, if◌then◌else◌}
use Rattle.std.specs.Option.{option_map}
use Rattle.std.specs.Cmp.Lexicographic.{bytes_decides}
use Rattle.std.proofs.Math.Seq.{drop-cons}
use Rattle.std.proofs.lemmas.Option.{unwrap_or-slice_get}
use Rattle.exec_command.specs.declared.words.ExecWords.{ExecWords}
use Rattle.exec_command.specs.Words.{is_word, is_empty, begins_with_dash, word_at, after_word, read_exec}
use Rattle.trim_command.specs.Writing.{IsApart}
use Rattle.trim_cli.specs.declared.command.Command.{Command}
use Rattle.trim_cli.specs.declared.command.Awaited.{Awaited}
use Rattle.trim_cli.specs.declared.command.Awaited.TheVariants as awaited
use Rattle.trim_cli.specs.declared.command.TrimProgress.{TrimProgress}
use Rattle.trim_cli.specs.Words.{is_at, take_trim_option, take_trim_name, take_descriptor, take_list, trim_step_by, trim_step, trim_rest, trim_finish, trim_finished, trim_begin, exec_of, read_words}
use Rattle.trim_cli.specs.Answer.{AreApart}

-- OUT and the keep list, as far as they were read, have two names
abbrev ApartSoFar : List (List ℕ) → Option ℕ → Option ℕ → Type 0
ApartSoFar words None list = Unit {0}
ApartSoFar words (Some output) list = IsApart (word_at words output) (option_map (word_at words) list)

abbrev Good : List (List ℕ) → TrimProgress → Type 0
Good words p = ApartSoFar words p.output p.list

abbrev GoodStep : List (List ℕ) → Option TrimProgress → Type 0
GoodStep words None = Unit {0}
GoodStep words (Some p) = Good words p

abbrev GoodRest : List (List ℕ) → Result TrimProgress ℕ → Type 0
GoodRest words (Err at) = Unit {0}
GoodRest words (Ok p) = Good words p

-- ---- a word that isn't another

not_same : (a b : List ℕ) → is_word a b ≡ false → a ≡ b → ⊥
not_same a b differs same = let no : false ≡ true = sym differs ∙ (bytes_decides a b).1 same in cc

-- ---- tests

by_test : (words : List (List ℕ)) (b : Bool) (o q : Option TrimProgress) → GoodStep words o → GoodStep words q → GoodStep words (if b then o else q)
by_test words true o q g h = g
by_test words false o q g h = h

unless : (words : List (List ℕ)) (b : Bool) (q : Option TrimProgress) → (b ≡ false → GoodStep words q) → GoodStep words (if b then None else q)
unless words true q h = tt
unless words false q h = h refl

-- ---- one word

output_apart : (words : List (List ℕ)) (at : ℕ) (w : List ℕ) (list : Option ℕ) → word_at words at ≡ w → is_at words list w ≡ false → ApartSoFar words (Some at) list
output_apart words at w None here differs = tt
output_apart words at w (Some l) here differs = λ same. not_same (word_at words l) w differs (same ∙ here)

list_apart : (words : List (List ℕ)) (at : ℕ) (w : List ℕ) (output : Option ℕ) → word_at words at ≡ w → is_at words output w ≡ false → ApartSoFar words output (Some at)
list_apart words at w None here differs = tt
list_apart words at w (Some o) here differs = λ same. not_same (word_at words o) w differs (sym same ∙ here)

option_good : (words : List (List ℕ)) (p : TrimProgress) (w : List ℕ) → Good words p → GoodStep words (take_trim_option p w)
option_good words p w good =
    by_test words (is_word w (codes "--")) _ _ good
    (by_test words (is_word w (codes "--descriptor")) _ _ good
    (by_test words (is_word w (codes "--internalize") && not p.internalize) _ _ good
    (by_test words (is_word w (codes "--keep-list") && is_none p.list) _ _ good tt)))

name_good : (words : List (List ℕ)) (p : TrimProgress) (at : ℕ) (w : List ℕ) → word_at words at ≡ w → Good words p → GoodStep words (take_trim_name words p at w)
name_good words p at w here good =
    by_test words (is_empty w) _ _ tt
    (by_test words (not (is_none p.output)) _ _ good
    (unless words (is_at words p.list w) _ (λ differs. output_apart words at w p.list here differs)))

descriptor_good : (words : List (List ℕ)) (p : TrimProgress) (at : ℕ) (w : List ℕ) → Good words p → GoodStep words (take_descriptor p at w)
descriptor_good words p at w good = by_test words (is_empty w) _ _ tt good

list_good : (words : List (List ℕ)) (p : TrimProgress) (at : ℕ) (w : List ℕ) → word_at words at ≡ w → GoodStep words (take_list words p at w)
list_good words p at w here =
    by_test words (is_empty w) _ _ tt
    (unless words (is_at words p.output w) _ (λ differs. list_apart words at w p.output here differs))

step_by_good : (a : Awaited) (words : List (List ℕ)) (p : TrimProgress) (at : ℕ) (w : List ℕ) → word_at words at ≡ w → Good words p → GoodStep words (trim_step_by a words p at w)
step_by_good awaited.Word words p at w here good =
    by_test words (not p.names_only && begins_with_dash w) _ _ (option_good words p w good) (name_good words p at w here good)
step_by_good awaited.Descriptor words p at w here good = descriptor_good words p at w good
step_by_good awaited.KeepList words p at w here good = list_good words p at w here

step_good : (words : List (List ℕ)) (p : TrimProgress) (at : ℕ) (w : List ℕ) → word_at words at ≡ w → Good words p → GoodStep words (trim_step words p at w)
unfolding trim_step
step_good words p at w here good = step_by_good p.awaits words p at w here good

-- ---- all words

first_is : (x y : List ℕ) (xs ys : List (List ℕ)) → x ∷ xs ≡ y ∷ ys → x ≡ y
first_is x y xs ys e = cc

rest_is : (x y : List ℕ) (xs ys : List (List ℕ)) → x ∷ xs ≡ y ∷ ys → xs ≡ ys
rest_is x y xs ys e = cc

before_end : (words : List (List ℕ)) (at : ℕ) (w : List ℕ) (ws : List (List ℕ)) → drop at words ≡ w ∷ ws → at < length words
before_end [] at w ws e = absurd (none at e)
  where
    none : (n : ℕ) → drop n [] ≡ w ∷ ws → ⊥
    none zero d = cc
    none (suc n) d = cc
before_end (x ∷ xs) zero w ws e = omega arith
before_end (x ∷ xs) (suc at) w ws e = let h = before_end xs at w ws e in omega (arith, h)

parts : (words : List (List ℕ)) (at : ℕ) (w : List ℕ) (ws : List (List ℕ)) → drop at words ≡ w ∷ ws → get_or words at [] ∷ drop (suc at) words ≡ w ∷ ws
parts words at w ws e = sym (drop-cons words at [] (before_end words at w ws e)) ∙ e

here_is : (words : List (List ℕ)) (at : ℕ) (w : List ℕ) (ws : List (List ℕ)) → drop at words ≡ w ∷ ws → word_at words at ≡ w
here_is words at w ws e = unwrap_or-slice_get words at [] ∙ first_is (get_or words at []) w (drop (suc at) words) ws (parts words at w ws e)

next_is : (words : List (List ℕ)) (at : ℕ) (w : List ℕ) (ws : List (List ℕ)) → drop at words ≡ w ∷ ws → drop (at + 1) words ≡ ws
next_is words at w ws e =
    let one : at + 1 ≡ suc at = omega arith in
    ap (λ (n : ℕ). drop n words) one ∙ rest_is (get_or words at []) w (drop (suc at) words) ws (parts words at w ws e)

after_good : (words : List (List ℕ)) (at : ℕ) (o : Option TrimProgress) (f : TrimProgress → Result TrimProgress ℕ) → GoodStep words o → ((p : TrimProgress) → Good words p → GoodRest words (f p))
    → GoodRest words (after_word at o f)
after_good words at None f good step = tt
after_good words at (Some p) f good step = step p good

rest_good : (words : List (List ℕ)) (ws : List (List ℕ)) (at : ℕ) (p : TrimProgress) → drop at words ≡ ws → Good words p → GoodRest words (trim_rest words at ws p)
rest_good words [] at p e good = good
rest_good words (w ∷ ws) at p e good =
    after_good words at (trim_step words p at w) (trim_rest words (at + 1) ws) (step_good words p at w (here_is words at w ws e) good)
    (λ q g. rest_good words ws (at + 1) q (next_is words at w ws e) g)

-- ---- the command

command_by : (words : List (List ℕ)) (b : Bool) (n : ℕ) (c : Result Command ℕ) → AreApart c words → AreApart (if b then Err n else c) words
command_by words true n c h = tt
command_by words false n c h = h

finish_apart : (words : List (List ℕ)) (n : ℕ) (a : Awaited) (output : Option ℕ) (p : TrimProgress) → ApartSoFar words output p.list → AreApart (trim_finish n a output p) words
finish_apart words n awaited.Word None p good = tt
finish_apart words n awaited.Word (Some output) p good = command_by words (is_empty p.inputs) n _ good
finish_apart words n awaited.Descriptor output p good = tt
finish_apart words n awaited.KeepList output p good = tt

finished_apart : (words : List (List ℕ)) (n : ℕ) (r : Result TrimProgress ℕ) → GoodRest words r → AreApart (trim_finished n r) words
finished_apart words n (Err at) good = tt
finished_apart words n (Ok p) good = finish_apart words n p.awaits p.output p good

exec_apart : (words : List (List ℕ)) (r : Result ExecWords ℕ) → AreApart (exec_of r) words
exec_apart words (Err at) = tt
exec_apart words (Ok asked) = tt

either : (words : List (List ℕ)) (b : Bool) (c d : Result Command ℕ) → AreApart c words → AreApart d words → AreApart (if b then c else d) words
either words true c d g h = g
either words false c d g h = h

pub apart : (words : List (List ℕ)) → AreApart (read_words words) words
unfolding read_words
apart [] = tt
apart (w ∷ ws) =
    either (w ∷ ws) (is_word w (codes "exec")) _ _ (exec_apart (w ∷ ws) (read_exec (w ∷ ws)))
    (either (w ∷ ws) (is_word w (codes "trim")) _ _
    (finished_apart (w ∷ ws) (length ws + 1) (trim_rest (w ∷ ws) 1 ws trim_begin) (rest_good (w ∷ ws) ws 1 trim_begin refl tt)) tt)
