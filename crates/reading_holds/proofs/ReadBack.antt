-- What the sheet's call writes is read back. Assumes nothing.
use mathlib.Core.Path.{◌≡◌, ap, ◌∙◌}
use mathlib.Core.List.{List}
use Prim.Native.Nat.{ℕ}
use lib.Ieee.{Float}
use lib.ListN.{length}
use Rattle.std.specs.Prelude.{Ok}
use Rattle.game.specs.declared.Situation.{Situation}
use Rattle.decision.specs.Decision.{decision_of}
use Rattle.call.specs.declared.SheetFor.{SheetFor}
use Rattle.call.specs.Call.{sheet_answer}
use Rattle.call.proofs.Claims.{written_accepted, bytes_told}
use Rattle.words.specs.Words.{situation_of}
use Rattle.places_hold.specs.Claims.{Placed}
use Rattle.places_hold.proofs.Placed.{placed}
use Rattle.places_hold.proofs.OfWords.{words_placed}
use Rattle.reading.specs.Reading.{read_refusal, items_in}
use Rattle.reading_holds.specs.Claims.{ReadBack, ReadBackClaim, WordsReadBackClaim}
use Rattle.reading_holds.proofs.Orderly.{orderly}
use Rattle.reading_holds.proofs.Sheet.{text_of_read, text_of_items}

-- the bytes that count are the text
read : (to : SheetFor) (s : Situation) (xs ys : List Float) (sheet : List ℕ) (n : ℕ) → sheet_answer to s xs ys (length sheet) ≡ Ok n → Placed (decision_of s xs ys).place → ReadBack to s xs ys sheet n
read to s xs ys sheet n e p =
    let bytes = bytes_told to s xs ys sheet n e in
    record {
      accepted = ap read_refusal bytes ∙ text_of_read (decision_of s xs ys) (orderly s xs ys p);
      items = ap items_in bytes ∙ text_of_items (decision_of s xs ys) (orderly s xs ys p);
    }

pub read_back : ReadBackClaim
read_back to s xs ys sheet n floats e = read to s xs ys sheet n e (placed s xs ys floats (written_accepted to s xs ys sheet n e))

pub words_read_back : WordsReadBackClaim
words_read_back to ws xs ys sheet n e = read to (situation_of ws) xs ys sheet n e (words_placed ws xs ys (written_accepted to (situation_of ws) xs ys sheet n e))
