-- `number`: what the scan found is a number or not.
use Rattle.std.proofs.Common.{refl, sym, arith}
use Rattle.std.proofs.lemmas.Grind.{common_steps}
use Rattle.script.proofs.Numbers.{scan_short, number_past, number_large, number_plain, number_not_plain}
use Rattle.script.proofs.reading.Cursor.number.Goals as goal

pub returns-in_err-get : goal.returns-in_err-get
returns-in_err-get c = record { text = refl; read = grind (arith, common_steps, number_past) }

pub returns-in_err-value : goal.returns-in_err-value
returns-in_err-value c = record { text = refl; read = grind (arith, common_steps, number_large) }

pub returns-then-not-is_plain : goal.returns-then-not-is_plain
returns-then-not-is_plain c =
    let p = c.args.self.now in
    let d = c.scan-digits.result in
    record {
      text = refl;
      read = sym (number_not_plain p.text.now p.at d (grind (arith, common_steps)) c.in_ok-value.value (grind (arith, common_steps)) (grind arith));
    }

pub overflow_add-self : goal.overflow_add-self
overflow_add-self c = grind (arith, common_steps, scan_short)

pub returns : goal.returns
returns c =
    let p = c.args.self.now in
    let d = c.scan-digits.result in
    record {
      text = refl;
      read = sym (number_plain p.text.now p.at d (grind (arith, common_steps)) c.in_ok-value.value (grind (arith, common_steps)) (grind arith));
    }
