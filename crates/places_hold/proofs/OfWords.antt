-- The floats of words that a place is found by fit binary32. Assumes nothing.
use mathlib.Core.List.{List}
use Prim.Native.Nat.{ℕ}
use Rattle.words.specs.Words.{field_of, pose_at, ball_of, situation_of}
use Rattle.words.proofs.Fits.{float_fits, side_poses}
use Rattle.places_hold.specs.Claims.{SeenFits, PlaceFloats, WordsPlacedClaim}
use Rattle.places_hold.proofs.Placed.{placed}

words_floats : (ws : List ℕ) → PlaceFloats (situation_of ws)
unfolding situation_of field_of ball_of pose_at
words_floats ws =
    record {
      field =
          record {
            length = float_fits ws _;
            width = float_fits ws _;
            goal_width = float_fits ws _;
            goal_area_length = float_fits ws _;
            goal_area_width = float_fits ws _;
            penalty_area_length = float_fits ws _;
            penalty_area_width = float_fits ws _;
            mark = float_fits ws _;
            border = float_fits ws _;
            line = float_fits ws _;
            ball_radius = float_fits ws _;
          };
      distance = float_fits ws _;
      ball_x = float_fits ws _;
      ball_y = float_fits ws _;
      poses = side_poses SeenFits tt ws (λ i. record { y = float_fits ws _; theta = float_fits ws _; radius = float_fits ws _ });
    }

pub words_placed : WordsPlacedClaim
words_placed ws xs ys e = placed (situation_of ws) xs ys (words_floats ws) e
