-- Bytes that are put into a buffer at an index, and laws of that: the buffer keeps its length, and lists that are put one after another are
-- one list. It rests on the library.
use Rattle.std.specs.Prelude.{ℕ, ◌+◌, ◌≤◌, ◌<◌, ◌≡◌, refl, List, [], ◌∷◌, ◌++◌, set, length, take, drop}
use Rattle.std.proofs.Common.{sym, ap, ◌∙◌, append_assoc, arith, add_assoc, length-append, length-drop, take-append-drop, length-take-le, take_at, drop_at, drop-drop}
use Rattle.std.proofs.lemmas.List.{set_split}

-- a list of bytes put at an index
unfoldable pub put_bytes : ℕ → List ℕ → List ℕ → List ℕ
put_bytes at bytes buffer = take at buffer ++ (bytes ++ drop (at + length bytes) buffer)

pub put_length : (at : ℕ) (bytes buffer : List ℕ) → at + length bytes ≤ length buffer → length (put_bytes at bytes buffer) ≡ length buffer
unfolding put_bytes
put_length at bytes buffer fits =
    length-append (take at buffer) (bytes ++ drop (at + length bytes) buffer)
    ∙ (let a = length-take-le at buffer (omega arith) in
    let b = length-append bytes (drop (at + length bytes) buffer) in
    let c = length-drop (at + length bytes) buffer in omega arith)

pub put_none : (at : ℕ) (buffer : List ℕ) → put_bytes at [] buffer ≡ buffer
unfolding put_bytes
put_none at buffer = let same : at + 0 ≡ at = omega arith in rw same (take-append-drop at buffer)

pub put_put : (at : ℕ) (first second buffer : List ℕ) → at + length first ≤ length buffer
    → put_bytes (at + length first) second (put_bytes at first buffer) ≡ put_bytes at (first ++ second) buffer
unfolding put_bytes
put_put at first second buffer fits =
    rw (
      take_both,
      sym (drop-drop (length second) (at + length first) (take at buffer ++ (first ++ drop (at + length first) buffer))),
      drop_both,
      drop-drop (length second) (at + length first) buffer,
      append_assoc,
      length-append first second,
      append_assoc first second,
      add_assoc,
    ) refl
  where
    joined : take at buffer ++ (first ++ drop (at + length first) buffer) ≡ (take at buffer ++ first) ++ drop (at + length first) buffer
    joined = sym (append_assoc (take at buffer) first (drop (at + length first) buffer))

    joined_length : length (take at buffer ++ first) ≡ at + length first
    joined_length = length-append (take at buffer) first ∙ (let a = length-take-le at buffer (omega arith) in omega arith)

    take_both : take (at + length first) (take at buffer ++ (first ++ drop (at + length first) buffer)) ≡ take at buffer ++ first
    take_both = ap (take (at + length first)) joined ∙ take_at (take at buffer ++ first) (drop (at + length first) buffer) (at + length first) joined_length

    drop_both : drop (at + length first) (take at buffer ++ (first ++ drop (at + length first) buffer)) ≡ drop (at + length first) buffer
    drop_both = ap (drop (at + length first)) joined ∙ drop_at (take at buffer ++ first) (drop (at + length first) buffer) (at + length first) joined_length

-- one byte put at an index
pub put_one : (at b : ℕ) (buffer : List ℕ) → at < length buffer → set buffer at b ≡ put_bytes at (b ∷ []) buffer
unfolding put_bytes
put_one at b buffer inside = rw (native.Mathlib.Numerals.add-one at) (set_split buffer at b inside)
