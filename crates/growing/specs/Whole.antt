-- WHAT `routes_to` PRINTS, for every argument and every standard input, over the contracts of `limit_of` and `head` here and of `listing::first_line` and `listing::line`: the model's
-- text (`limit_prints`, `no_limit_prints`). The program hands over the first 4,096 bytes of standard input, an argument that is longer than its
-- buffer as none, and lends 3,936,256 bytes. It rests on listing's Whole.antt and on what is a limit (the model's LimitLaws.antt).
use Rattle.std.specs.Prelude.{if◌then◌else◌}
use Rattle.std.specs.Prelude.{ℕ, ◌≡◌, Bool, List, [], length, take, Result}
use Rattle.std.proofs.Math.Path.{refl, sym}
use Rattle.std.proofs.Common.{◌∙◌, arith}
use Rattle.std.proofs.Math.Bool.{true, false}
use Rattle.std.proofs.Math.Dec.{leb}
use borrow.Author.Tests.{leb-false}
use Rattle.model.specs.Printed.{handed_over}
use Rattle.model.specs.RoutesTo.{boards, no_limit, is_limit, limit_of, limit_line, routes_to_room, routes_to_text}
use Rattle.model.proofs.LimitLaws.{too_long}
use Rattle.gridfile.specs.declared.Declined.{Declined}
use Rattle.listing.specs.declared.Heading.{Heading}
use Rattle.listing.specs.Listing.{line_text, height_of, width_of, layouts_of, text_of, Headed}
use Rattle.listing.specs.Whole.{all_bytes, list_whole}

nothing : limit_of [] ≡ no_limit
unfolding limit_of is_limit
nothing = refl

module _ (argument input : List ℕ) where
  -- an argument that is longer than the buffer is no limit, and neither is none
  same_limit : limit_of (handed_over argument) ≡ limit_of argument
  unfolding handed_over
  same_limit = go (leb (length argument) 4096) refl
    where
      go : (short : Bool) → leb (length argument) 4096 ≡ short → limit_of (if short then argument else []) ≡ limit_of argument
      go true h = refl
      go false h = nothing ∙ sym (too_long argument (omega (arith, leb-false (length argument) 4096 h)))

  -- a limit: the first line and the lines of the layouts
  module _ (limit : ℕ) (given : limit_of (handed_over argument) ≡ boards limit) (buffer : List ℕ) (r : Result Heading Declined) (buffer' : List ℕ)
      (headed : Headed limit (take 4096 input) buffer r buffer') (first : List ℕ) (begun : first ≡ text_of r) (line : ℕ → List ℕ) (lined : (k : ℕ) → line k ≡ line_text (height_of r) (width_of r) (layouts_of r) k buffer') where
    pub limit_prints : length buffer ≡ routes_to_room → all_bytes limit (take 4096 input) buffer r buffer' headed first begun line lined ≡ routes_to_text argument input
    unfolding routes_to_text
    limit_prints room = rw (sym same_limit ∙ given, routes_to_text) (list_whole limit input buffer r buffer' headed first begun line lined routes_to_room room)

  -- none: the line that says so
  pub no_limit_prints : limit_of (handed_over argument) ≡ no_limit → limit_line ≡ routes_to_text argument input
  unfolding routes_to_text
  no_limit_prints given = rw (sym same_limit ∙ given, routes_to_text) refl
