-- The whole metadata, by its streams.
use Rattle.std.proofs.Common.{◌≡◌, ℕ, ◌+◌, ◌^◌, ◌<◌, List, length, refl, sym, ap, subst, ◌∙◌, arith, length-append}
use Rattle.std.proofs.lemmas.List.{length-map}
use Rattle.rules.specs.file_layout.Heaps.{heap_bits, strings_heap, users_heap, guids_heap, blobs_heap}
use Rattle.rules.specs.file_layout.TableStream.{tables_stream}
use Rattle.rules.specs.file_layout.Metadata.{Streams, root_bytes, stream_headers, metadata_bytes}
use Rattle.rules.specs.file_layout.Cells.{Pools, CellTables, numbers_of}
use Rattle.rules.specs.file_layout.Laid.{sizes_of, streams_with}
use Rattle.record_writer.specs.metadata_writer.Lengths.{blobs_put, users_put}
use Rattle.record_writer.specs.metadata_writer.Written.{IsPut}
use Rattle.record_writer.proofs.lemmas.metadata_writer.Puts.{blobs_put-length, blobs_put-is, users_put-length, users_put-is}

root-length : length root_bytes ≡ 32
unfolding root_bytes
root-length = refl

headers-length : (s : Streams) → length (stream_headers s) ≡ 76
unfolding stream_headers
headers-length s = refl

metadata-length : (s : Streams) → length (metadata_bytes s) ≡ 108 + (length s.tables + length s.strings + length s.users + length s.guids + length s.blobs)
unfolding metadata_bytes
metadata-length s = simp length-append (omega (arith, root-length, headers-length s))

-- streams of which two are put
abbrev with_two : List ℕ → List ℕ → List ℕ → List ℕ → List ℕ → Streams
with_two tables strings users guids blobs = record { tables = tables; strings = strings; users = users; guids = guids; blobs = blobs }

metadata_put : (t s u u' g b b' : List ℕ) → IsPut u u' → IsPut b b' → IsPut (metadata_bytes (with_two t s u g b)) (metadata_bytes (with_two t s u' g b'))
metadata_put t s u u' g b b' hu hb =
    let put : length (metadata_bytes (with_two t s u g b)) ≡ 108 + (length t + length s + length u + length g + length b) = metadata-length (with_two t s u g b) in
    let laid : length (metadata_bytes (with_two t s u' g b')) ≡ 108 + (length t + length s + length u' + length g + length b') = metadata-length (with_two t s u' g b') in
    let eu : length u ≡ length u' = hu.len in
    let eb : length b ≡ length b' = hb.len in
    record {
      len = omega arith;
      exact = λ lt.
          let lu : length u' < 2 ^ 29 = omega arith in
          let lb : length b' < 2 ^ 29 = omega arith in
          λ i. metadata_bytes (with_two t s (hu.exact lu i) g (hb.exact lb i));
    }

-- the metadata of heaps that are put
pub streams_put : (pools : Pools) (cells : CellTables) (user : List (List ℕ)) (t s u g b : List ℕ)
    → t ≡ tables_stream (sizes_of pools) (numbers_of pools cells) → s ≡ strings_heap pools.texts → u ≡ users_put user → g ≡ guids_heap pools.guids → b ≡ blobs_put pools.blobs
    → IsPut (metadata_bytes (with_two t s u g b)) (metadata_bytes (streams_with pools cells user))
unfolding streams_with
streams_put pools cells user t s u g b et es eu eg eb =
    let hu : IsPut (users_put user) (users_heap user) = record { len = users_put-length user; exact = users_put-is user } in
    let hb : IsPut (blobs_put pools.blobs) (blobs_heap pools.blobs) = record { len = blobs_put-length pools.blobs; exact = blobs_put-is pools.blobs } in
    let all : metadata_bytes (with_two t s u g b)
    ≡ metadata_bytes (with_two (tables_stream (sizes_of pools) (numbers_of pools cells)) (strings_heap pools.texts) (users_put user) (guids_heap pools.guids) (blobs_put pools.blobs))
    = λ i. metadata_bytes (with_two (et i) (es i) (eu i) (eg i) (eb i)) in
    subst (λ (x : List ℕ). IsPut x (metadata_bytes (with_two (tables_stream (sizes_of pools) (numbers_of pools cells)) (strings_heap pools.texts) (users_heap user) (guids_heap pools.guids) (blobs_heap pools.blobs))))
    (sym all)
    (metadata_put (tables_stream (sizes_of pools) (numbers_of pools cells)) (strings_heap pools.texts) (users_put user) (users_heap user) (guids_heap pools.guids) (blobs_put pools.blobs) (blobs_heap pools.blobs) hu hb)

pub numbers-length : (pools : Pools) (cells : CellTables) → length (numbers_of pools cells) ≡ length cells
unfolding numbers_of
numbers-length pools cells = length-map cells _

-- HeapSizes of heaps that are put
pub sizes_are : (pools : Pools) (s g b : List ℕ) → s ≡ strings_heap pools.texts → g ≡ guids_heap pools.guids → b ≡ blobs_put pools.blobs
    → heap_bits (length s) (length g) (length b) ≡ sizes_of pools
sizes_are pools s g b es eg eb = let el : length b ≡ length (blobs_heap pools.blobs) = ap length eb ∙ blobs_put-length pools.blobs in λ i. heap_bits (length (es i)) (length (eg i)) (el i)

pub put_as : (x y laid : List ℕ) → x ≡ y → IsPut y laid → IsPut x laid
put_as x y laid e h = subst (λ (z : List ℕ). IsPut z laid) (sym e) h

pub put_of_pools : (m : List ℕ) (p q : Pools) (cells : CellTables) (user : List (List ℕ)) → p ≡ q
    → IsPut m (metadata_bytes (streams_with p cells user)) → IsPut m (metadata_bytes (streams_with q cells user))
put_of_pools m p q cells user e h = subst (λ (r : Pools). IsPut m (metadata_bytes (streams_with r cells user))) e h
