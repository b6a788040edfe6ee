-- A record's first two words taken apart, and a header put together: "2 × target cell + flag", "4 × meter + kind".
use Rattle.std.specs.Prelude.{Bool, ℕ, ◌+◌, ◌%◌, ◌^◌}
use Rattle.model.specs.Choice.{one}
use Rattle.model.specs.Arena.{plain, target_of, flag_of, meter_of, kind_of}
use Rattle.record.specs.declared.Header.{Header}
use Rattle.record.specs.declared.Label.{Label}

abbrev pub unpacked : ℕ → Header
unpacked h = record { target = target_of h; flag = flag_of h }

-- in 32 bits, of which the target has 31
unfoldable pub packed : ℕ → Bool → ℕ
packed target flag = plain target % 2 ^ 32 + one flag

abbrev pub unpacked_label : ℕ → Label
unpacked_label l = record { meter = meter_of l; kind = kind_of l }
