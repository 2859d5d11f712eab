-- The files that were read so far, and one more name.
use Rattle.std.proofs.Common.{◌≡◌, ℕ, suc, ◌<◌, ◌+◌, List, [], ◌∷◌, ◌++◌, length, map, take, drop, get_or, Option, Ok, Err, refl, sym, ap, subst, ◌∙◌}
use Rattle.std.proofs.Math.Seq.{drop-cons}
use Rattle.std.proofs.lemmas.List.{take_more, take-append-drop, map-append}
use Rattle.il_outside.specs.Faults.{Rose}
use Rattle.il_outside.specs.declared.folder.FolderError.{FolderError}
use Rattle.il_outside.specs.declared.folder.FolderError.TheVariants.{Failed, NoMemory}
use Rattle.il_outside.specs.Folder.{Files, FolderState, Tells, KeepsFiles, NoFault, ReadFaults}
use Rattle.named_files.specs.Files.{TellsAll, ReadsFiles}
use Rattle.named_files.proofs.Folders.{keeps_itself, keeps_twice, quiet_twice, told_before}

told_more : (known : Option Files) (names files : List (List ℕ)) (name file : List ℕ) → TellsAll known names files → Tells known name file → TellsAll known (names ++ (name ∷ [])) (files ++ (file ∷ []))
told_more known [] [] name file all one = (one, tt)
told_more known [] (f ∷ fs) name file all one = absurd all
told_more known (n ∷ ns) [] name file all one = absurd all
told_more known (n ∷ ns) (f ∷ fs) name file all one = (all.0, told_more known ns fs name file all.1 one)

-- the names up to the one after index i
pub next_names : {A : Type 0} (f : A → List ℕ) (xs : List A) (i : ℕ) (x : A) (name : List ℕ) → i < length xs → x ≡ get_or xs i x → name ≡ f x
    → map f (take (i + 1) xs) ≡ map f (take i xs) ++ (name ∷ [])
next_names {A} f xs i x name lt is e =
    ap (map f) (take_more xs i x lt) ∙ map-append f (take i xs) (get_or xs i x ∷ []) ∙ ap (λ (y : A). map f (take i xs) ++ (f y ∷ [])) (sym is)
    ∙ ap (λ (n : List ℕ). map f (take i xs) ++ (n ∷ [])) (sym e)

-- the names before, at and after index i
pub split_names : {A : Type 0} (f : A → List ℕ) (xs : List A) (i : ℕ) (x : A) (name : List ℕ) → i < length xs → x ≡ get_or xs i x → name ≡ f x
    → map f xs ≡ map f (take i xs) ++ (name ∷ map f (drop (suc i) xs))
split_names {A} f xs i x name lt is e =
    ap (map f) (sym (take-append-drop i xs)) ∙ map-append f (take i xs) (drop i xs) ∙ ap (λ (ys : List A). map f (take i xs) ++ map f ys) (drop-cons xs i x lt)
    ∙ ap (λ (y : A). map f (take i xs) ++ (f y ∷ map f (drop (suc i) xs))) (sym is) ∙ ap (λ (n : List ℕ). map f (take i xs) ++ (n ∷ map f (drop (suc i) xs))) (sym e)

-- the names that were read, with their files
pub record Read (names files : List (List ℕ)) (was now : FolderState) : Type 0 where
  pub told : TellsAll was.files names files
  pub kept : KeepsFiles was.files now.files
  pub quiet : NoFault was now

pub none_read : (was : FolderState) → Read [] [] was was
none_read was = record { told = tt; kept = keeps_itself was.files; quiet = (refl, refl, refl) }

pub one_more : (names files more : List (List ℕ)) (name file : List ℕ) (was mid now : FolderState) → Read names files was mid → KeepsFiles mid.files now.files → Tells mid.files name file
    → ReadFaults mid now name (Ok file) → more ≡ files ++ (file ∷ []) → Read (names ++ (name ∷ [])) more was now
one_more names files more name file was mid now h kept told faults e = record {
  told = subst (λ (fs : List (List ℕ)). TellsAll was.files (names ++ (name ∷ [])) fs) (sym e)
      (told_more was.files names files name file h.told (told_before was.files mid.files name file h.kept told));
  kept = keeps_twice was.files mid.files now.files h.kept kept;
  quiet = quiet_twice was mid now h.quiet faults;
}

pub read_failed : (all names after files : List (List ℕ)) (name : List ℕ) (was mid now : FolderState) (e : FolderError) → Read names files was mid → all ≡ names ++ (name ∷ after)
    → ReadFaults {T = List ℕ} mid now name (Err e) → ReadsFiles all was now (Err e)
read_failed all names after files name was mid now Failed h parts faults = record {
  before = names;
  name = name;
  after = after;
  parts = parts;
  files = files;
  told = h.told;
  rose = subst (λ (n : ℕ). Rose n now.read_faults) h.quiet.0 faults.0;
  failed = faults.2;
  writes = faults.1 ∙ h.quiet.1;
}
read_failed all names after files name was mid now NoMemory h parts faults = quiet_twice was mid now h.quiet faults

pub all_read : (names part files : List (List ℕ)) (was now : FolderState) → part ≡ names → Read part files was now → ReadsFiles names was now (Ok files)
all_read names part files was now e h = (subst (λ (ns : List (List ℕ)). TellsAll was.files ns files) e h.told, h.quiet)
