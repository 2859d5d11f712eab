-- The objects in memory: which call fails, and what stands under a name.
use Rattle.std.specs.Prelude.{◌≡◌, ◌==◌, ℕ, Bool, List, [], ◌∷◌, take, drop, Option, Some, None, Result, Ok, Err, ⊤, if◌then◌else◌, find, is_some}
use Rattle.std.specs.Option.{option_map}
use Rattle.std.specs.Str.{bytes_eq}
use Rattle.il_outside.specs.declared.folder.FolderError.{FolderError}
use Rattle.il_outside.specs.declared.folder.FolderError.TheVariants.{Failed, NoMemory}
use Rattle.il_outside.specs.declared.mem_folder.NamedFile.{NamedFile}
use Rattle.il_outside.specs.declared.mem_folder.FailAt.{FailAt}
use Rattle.il_outside.specs.declared.mem_folder.MemFolder.{MemFolder}
use Rattle.il_outside.specs.declared.mem_streams.MemSource.{MemSource}
use Rattle.il_outside.specs.declared.mem_streams.MemSink.{MemSink}
use Rattle.il_outside.specs.Folder.{FolderState}
use Rattle.il_outside.specs.Streams.{SourceState, SinkState}

abbrev pub is_named : List ℕ → NamedFile → Bool
is_named name f = bytes_eq f.name name

-- the bytes of the first file of this name
abbrev pub file_in : List NamedFile → List ℕ → Option (List ℕ)
file_in files name = option_map (λ f. f.bytes) (find (is_named name) files)

-- the known state of a folder in memory
abbrev pub mem_folder_state : MemFolder → FolderState
mem_folder_state m = record {
  files = Some (λ name. file_in m.files.items name);
  read_faults = m.read_faults;
  write_faults = m.write_faults;
  failed = m.failed;
}

-- the files with these bytes under this name: in the place of the first file of the name, or after the others
abbrev pub put_file : List NamedFile → List ℕ → List ℕ → List NamedFile
put_file [] name bytes = record { name = name; bytes = bytes } ∷ []
put_file (f ∷ fs) name bytes =
    if is_named name f then record { name = name; bytes = bytes } ∷ fs else f ∷ put_file fs name bytes

-- how many bytes the failing call leaves, by the first entry for it, and None where no entry lists the call
abbrev pub fails_at : List FailAt → ℕ → Option ℕ
fails_at fails call = option_map (λ f. f.kept) (find (λ f. f.call == call) fails)

-- what a read gives where memory is left: None is Failed
abbrev pub mem_read : List NamedFile → List FailAt → ℕ → List ℕ → Option (List ℕ)
mem_read files fails call name = if is_some (fails_at fails call) then None else file_in files name

abbrev pub AnswersRead : Option (List ℕ) → Result (List ℕ) FolderError → Type 0
AnswersRead want (Ok bytes) = want ≡ Some bytes
AnswersRead want (Err Failed) = want ≡ None
AnswersRead want (Err NoMemory) = ⊤

-- what a write leaves: all the bytes where the call isn't listed, the first `kept` of them where it is
abbrev pub AnswersWrite : List NamedFile → List NamedFile → Option ℕ → List ℕ → List ℕ → Result Unit FolderError → Type 0
AnswersWrite old new kept name bytes (Ok x) = (kept ≡ None) × (new ≡ put_file old name bytes)
AnswersWrite old new kept name bytes (Err Failed) = (k : ℕ) × (kept ≡ Some k) × (new ≡ put_file old name (take k bytes))
AnswersWrite old new kept name bytes (Err NoMemory) = new ≡ old

-- the known state of a source in memory
abbrev pub mem_source_state : MemSource → SourceState
mem_source_state s = record { left = Some (drop s.at s.bytes); faults = s.faults }

-- the known state of a sink in memory
abbrev pub mem_sink_state : MemSink → SinkState
mem_sink_state s = record { held = Some s.held.items; faults = s.faults }
