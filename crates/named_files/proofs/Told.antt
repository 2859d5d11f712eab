-- The files that were read are those that the folder tells.
use Rattle.std.proofs.Common.{◌≡◌, ℕ, List, [], ◌∷◌, Option, Some, refl, ap, subst, ◌∙◌}
use Rattle.il_outside.specs.Folder.{Files}
use Rattle.named_files.specs.Files.{TellsAll, with_file, files_under}

joined : (o : Option (List ℕ)) (os : Option (List (List ℕ))) (file : List ℕ) (files : List (List ℕ)) → o ≡ Some file → os ≡ Some files → with_file o os ≡ Some (file ∷ files)
joined o os file files p q = ap (λ (x : Option (List ℕ)). with_file x os) p ∙ ap (λ (x : Option (List (List ℕ))). with_file (Some file) x) q

told_under : (f : Files) (names files : List (List ℕ)) → TellsAll (Some f) names files → files_under f names ≡ Some files
told_under f [] [] told = refl
told_under f [] (file ∷ files) told = absurd told
told_under f (name ∷ names) [] told = absurd told
told_under f (name ∷ names) (file ∷ files) told = joined (f name) (files_under f names) file files told.0 (told_under f names files told.1)

pub told_of_known : (known : Option Files) (f : Files) (names files : List (List ℕ)) → known ≡ Some f → TellsAll known names files → files_under f names ≡ Some files
told_of_known known f names files e told = told_under f names files (subst (λ (o : Option Files). TellsAll o names files) e told)
