-- What is proved of the definitions in specs/WriteRead.antt.
use Rattle.std.specs.Prelude.{◌≡◌, refl, Bool, true, false, List, ℕ, ◌*◌, ◌-◌, ◌≤◌, ◌<◌, take, drop, replicate, ℤ, eqb, ltb}
use Rattle.std.proofs.Common.{sym, ap, ◌∙◌, le_trans, arith, length-append, take_at}
use Rattle.std.proofs.Math.ListN.{length}
use Rattle.std.proofs.Math.Seq.{take-append_seam}
use borrow.Author.Tests.{eqb-true, eqb-false, lt-ltb, le-ltb, ltb-true, ltb-false}
use Rattle.rules.specs.Grid.{Accepted}
use Rattle.model.specs.Refusals.{grid_refusal}
use Rattle.model.specs.RefusalLaws.{not_refused, accepted_is_not_refused}
use Rattle.model.specs.GridFile.{Reading, blank, grid_reading, read}
use Rattle.model.specs.Writing.{grid_text, turned_away, written, write}
use Rattle.reading.specs.ReadingLaws.{read_sound}
use Rattle.reading.specs.ReadBack.{text_is_read, longest_text}
use Rattle.reading.specs.WrittenBack.{pads_read, text_is_file}
use Rattle.reading.specs.WriteRead.{Goes, TextOfGrid, is_turned_away, is_written}

-- ## When a grid is written

module _ (height width : ℕ) (cells : List ℤ) (buffer : List ℕ) where
  -- a refused grid, whatever the room
  pub refused_grid : (eqb (grid_refusal height width cells).0 0 ≡ false) → write height width cells buffer ≡ turned_away (grid_refusal height width cells).0 (grid_refusal height width cells).1 buffer
  unfolding write
  refused_grid h = rw h

  module _ (a : Accepted height width cells) where
    pub has_room : length (grid_text height width cells) ≤ length buffer → write height width cells buffer ≡ written (grid_text height width cells) buffer
    unfolding write
    has_room h = rw (accepted_is_not_refused height width cells a, le-ltb _ _ h)

    pub no_room : length buffer < length (grid_text height width cells) → write height width cells buffer ≡ turned_away 14 0 buffer
    unfolding write
    no_room h = rw (accepted_is_not_refused height width cells a, lt-ltb _ _ h)

    -- 2,822 bytes are room enough for every accepted grid
    pub room_for_any : 2822 ≤ length buffer → write height width cells buffer ≡ written (grid_text height width cells) buffer
    room_for_any h = has_room (le_trans (longest_text height width cells a) h)

module _ (height width : ℕ) (cells : List ℤ) (buffer : List ℕ) where
  pub how_it_goes : Goes height width cells buffer
  how_it_goes = go (eqb (grid_refusal height width cells).0 0) refl (ltb (length buffer) (length (grid_text height width cells))) refl
    where
      go : (t : Bool) → eqb (grid_refusal height width cells).0 0 ≡ t → (u : Bool) → ltb (length buffer) (length (grid_text height width cells)) ≡ u → Goes height width cells buffer
      go false t u e = is_turned_away _ _ (eqb-false _ _ t) (refused_grid height width cells buffer t)
      go true t true e = is_turned_away 14 0 (λ (z : ◌≡◌ {A = ℕ} 14 0). omega arith) (no_room height width cells buffer (not_refused height width cells (eqb-true _ _ t)) (ltb-true _ _ e))
      go true t false e = let a = not_refused height width cells (eqb-true _ _ t) in is_written a (has_room height width cells buffer a (ltb-false _ _ e))

  -- a grid that was written is an accepted one, and its text had room
  written_says : (write height width cells buffer).number ≡ 0 → Accepted height width cells × (write height width cells buffer ≡ written (grid_text height width cells) buffer)
  unfolding turned_away
  written_says n = go how_it_goes
    where
      go : Goes height width cells buffer → Accepted height width cells × (write height width cells buffer ≡ written (grid_text height width cells) buffer)
      go (is_turned_away number index some e) = absurd (some (rw e at n))
      go (is_written a e) = (a, e)

  -- what is written lies in the buffer
  pub written_within : (write height width cells buffer).length ≤ length (write height width cells buffer).buffer
  unfolding turned_away written
  written_within = go how_it_goes
    where
      go : Goes height width cells buffer → (write height width cells buffer).length ≤ length (write height width cells buffer).buffer
      go (is_turned_away number index some e) = rw e (omega arith)
      go (is_written a e) = rw (e, length-append) (omega arith)

-- ## Reading what was written

-- the first bytes of the buffer, as many as were written, read as the grid: H, W, its cells, and blank past them
pub written_is_read : (height width : ℕ) (cells : List ℤ) (buffer : List ℕ) → (write height width cells buffer).number ≡ 0
    → read (take (write height width cells buffer).length (write height width cells buffer).buffer) ≡ grid_reading height width cells
unfolding written
written_is_read height width cells buffer n =
    let (a, w) = written_says height width cells buffer n in
    rw w (ap read (take-append_seam (grid_text height width cells) (drop (length (grid_text height width cells)) buffer)) ∙ text_is_read height width cells a)

-- ## Writing what was read

-- the file, byte for byte, in every buffer that is as long as the file
pub read_is_written : (file : List ℕ) → (read file).number ≡ 0 → (buffer : List ℕ) → length file ≤ length buffer
    → write (read file).height (read file).width (pads_read (read file)) buffer ≡ written file buffer
read_is_written file accepted buffer h =
    has_room (read file).height (read file).width (pads_read (read file)) buffer ((read_sound file).in_range accepted) (rw (text_is_file file accepted) h)
    ∙ ap (λ (text : List ℕ). written text buffer) (text_is_file file accepted)

-- no accepted file is longer than the longest text of a grid
pub longest_accepted : (file : List ℕ) → (read file).number ≡ 0 → length file ≤ 2822
longest_accepted file accepted = rw (text_is_file file accepted) at (longest_text (read file).height (read file).width (pads_read (read file)) ((read_sound file).in_range accepted))

-- the accepted files are exactly these
pub accepted_is_text : (file : List ℕ) → (read file).number ≡ 0 → TextOfGrid file
accepted_is_text file accepted =
    record {
      height = (read file).height;
      width = (read file).width;
      cells = pads_read (read file);
      in_range = (read_sound file).in_range accepted;
      text = text_is_file file accepted;
    }

pub text_is_accepted : (file : List ℕ) → TextOfGrid file → (read file).number ≡ 0
text_is_accepted file t = rw (← t.text) (ap (λ (r : Reading). r.number) (text_is_read t.height t.width t.cells t.in_range))

-- two accepted files with the same reading are the same file: 07 and 7 are never both read as 7
pub one_file_a_grid : (file other : List ℕ) → (read file).number ≡ 0 → read file ≡ read other → file ≡ other
one_file_a_grid file other accepted same =
    sym (text_is_file file accepted)
    ∙ ap (λ (r : Reading). grid_text r.height r.width (pads_read r)) same
    ∙ text_is_file other (rw same at accepted)

-- two accepted grids with the same text are the same grid
module _ (height width : ℕ) (cells : List ℤ) (in_range : Accepted height width cells) (height' width' : ℕ) (cells' : List ℤ) (in_range' : Accepted height' width' cells') where
  pub one_grid_a_text : grid_text height width cells ≡ grid_text height' width' cells' → (height ≡ height') × (width ≡ width') × (cells ≡ cells')
  one_grid_a_text same = (ap (λ (r : Reading). r.height) readings, ap (λ (r : Reading). r.width) readings, sym (pads height width cells in_range) ∙ ap pads_read readings ∙ pads height' width' cells' in_range')
    where
      readings : grid_reading height width cells ≡ grid_reading height' width' cells'
      readings = sym (text_is_read height width cells in_range) ∙ ap read same ∙ text_is_read height' width' cells' in_range'

      pads : (h w : ℕ) (c : List ℤ) → Accepted h w c → pads_read (grid_reading h w c) ≡ c
      pads h w c a = take_at c (replicate (256 - length c) blank) (h * w) a.one_cell_a_pad
