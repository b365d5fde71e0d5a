use Rattle.std.proofs.Common.{rules, Bool, ◌&&◌, leb, length, ap, sym, ◌∙◌}
use mir.Syntax.{w64}
use mir.ValLaws.{to_z-of_z}
use Rattle.referee_c.specs.Entries.{minus}
use Rattle.referee_c.proofs.PlaceLaws.{place_unasked, place_refused, place_written}
use Rattle.referee_c.proofs.referee_place.Goals as goal

pub returns-in-Err : goal.returns-in-Err
returns-in-Err c =
    let a = c.args in
    let told = place_refused a.words.now a.xs.now a.ys.now a.place.now
    (ap (λ (b : Bool). b && leb 5 (length a.place.now)) (sym c.is_situation.ensures) ∙ c.if-is_situation-place.true) _ c.situation_of-s.ensures _ c.in-Err.ensures in
    record { value = to_z-of_z w64 c.minus-in-Err.result (search rules) ∙ c.minus-in-Err.ensures ∙ ap minus c.number_of.ensures ∙ told.0; place_after = told.1 }

pub returns-in-Ok : goal.returns-in-Ok
returns-in-Ok c =
    let a = c.args in
    let told = place_written a.words.now a.xs.now a.ys.now a.place.now
    (ap (λ (b : Bool). b && leb 5 (length a.place.now)) (sym c.is_situation.ensures) ∙ c.if-is_situation-place.true) _ c.situation_of-s.ensures _ c.in-Ok.ensures
    c.write_place.result _ c.write_place.ensures.value c.write_place.ensures.place_after in
    record { value = to_z-of_z w64 c.write_place.result (search rules) ∙ told.0; place_after = told.1 }

pub returns : goal.returns
returns c =
    let a = c.args in
    let told = place_unasked a.words.now a.xs.now a.ys.now a.place.now
    (ap (λ (b : Bool). b && leb 5 (length a.place.now)) (sym c.is_situation.ensures) ∙ c.if-is_situation-place.false) in
    record { value = to_z-of_z w64 c.minus-2.result (search rules) ∙ c.minus-2.ensures ∙ told.0; place_after = told.1 }
