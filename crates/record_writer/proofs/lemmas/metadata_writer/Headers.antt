-- Stream headers.
use Rattle.std.proofs.Common.{◌≡◌, ℕ, List, ◌++◌, ap, ◌∙◌}
use Rattle.rules.specs.file_layout.Metadata.{stream_header}

-- a stream header whose offset is known by another term
pub as_header : (a b stream name : List ℕ) (n m : ℕ) → n ≡ m → b ≡ a ++ stream_header n stream name → b ≡ a ++ stream_header m stream name
as_header a b stream name n m e h = h ∙ ap (λ (k : ℕ). a ++ stream_header k stream name) e
