use Rattle.std.proofs.Common.{refl}
use Rattle.wire_tests.specs.declared.updates.TheConstants.{EXTERNAL, TWO_OCTETS}
use Rattle.update_codec.proofs.Plain.{writable}
use Rattle.wire_tests.proofs.updates.route.Goals as goal

pub returns-clause-external : goal.returns-clause-external
returns-clause-external c =
    writable EXTERNAL c.push.new.self _ c.new.result c.new-2.result c.new-3.result c.in_ok-prefixes.prefixes c.prefix.result c.args.numbers.now refl refl refl c.prefix.ensures
    (rw (c.in_ok-push.ensures.ok, c.new-path.ensures, c.in_ok-from_slice.ensures) refl) c.requires.some c.requires.few c.new.ensures c.new-2.ensures c.new-3.ensures c.in_ok-prefixes.ensures

pub returns-clause-two_octets : goal.returns-clause-two_octets
returns-clause-two_octets c =
    writable TWO_OCTETS c.push.new.self _ c.new.result c.new-2.result c.new-3.result c.in_ok-prefixes.prefixes c.prefix.result c.args.numbers.now refl refl refl c.prefix.ensures
    (rw (c.in_ok-push.ensures.ok, c.new-path.ensures, c.in_ok-from_slice.ensures) refl) c.requires.some c.requires.few c.new.ensures c.new-2.ensures c.new-3.ensures c.in_ok-prefixes.ensures
