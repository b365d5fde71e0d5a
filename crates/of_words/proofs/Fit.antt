-- The floats of words that the theorem of the half turn asks for fit binary32. Assumes nothing.
use mathlib.Core.List.{List}
use Prim.Native.Nat.{ℕ, ◌+◌}
use Rattle.game.specs.declared.Side.TheVariants.{Home, Away}
use Rattle.decision.specs.Fit.{Fit, SeenFit}
use Rattle.columns.specs.Layout as At
use Rattle.words.specs.Words.{field_of, pose_at, ball_of, situation_of}
use Rattle.words.proofs.Fits.{float_fits, side_poses}

module _ (ws : List ℕ) where
  pub words_fit : Fit (situation_of ws)
  unfolding situation_of field_of ball_of pose_at
  words_fit =
      record {
        field =
            record {
              length = float_fits ws At.field_length;
              width = float_fits ws At.field_width;
              border_strip_width = float_fits ws At.border_strip_width;
              ball_radius = float_fits ws At.ball_radius;
            };
        home = side_poses SeenFit tt ws (λ i. record { y = float_fits ws (i + 1); radius = float_fits ws (i + 3) }) Home;
        away = side_poses SeenFit tt ws (λ i. record { y = float_fits ws (i + 1); radius = float_fits ws (i + 3) }) Away;
        ball = record { x = float_fits ws At.ball; y = float_fits ws (At.ball + 1) };
      }
