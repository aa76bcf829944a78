use Rattle.std.proofs.Common.{◌≡◌, ◌-◌}
use Rattle.fips_cases.specs.Monte.{turns, monte}
use Rattle.fips_cases.proofs.messages.turned.Given as goal

abbrev pub invariant-loop : goal.invariant-loop
invariant-loop l = monte l.fn.seed ≡ turns (1000 - l.counter) l.a l.b l.c
