use Rattle.std.proofs.Common.{◌≡◌, sym, ap, ◌∙◌, length}
use Rattle.std.specs.declared.net.ipv4_addr.Ipv4Addr.{Ipv4Addr}
use Rattle.std.specs.declared.net.ipv6_addr.Ipv6Addr.{Ipv6Addr}
use Rattle.std.specs.Net.Addr.{ipv4_octets, ipv6_segments}
use Rattle.std.specs.Net.Text.{ipv4_text, hex_groups_text}
use Rattle.net_base.specs.declared.addr.Family.{Family}
use Rattle.net_base.specs.declared.addr.Addr.{Addr}
use Rattle.net_base.specs.Addr.{IsSameV4, IsSameV6, addr_text, bits_text}
use Rattle.net_base.proofs.addr.Addr.text_length.Goals as goal

text_v4 : (a : Addr) (ip : Ipv4Addr) → IsSameV4 a ip → ipv4_text (ipv4_octets ip) ≡ addr_text a
unfolding bits_text
text_v4 a ip same = ap ipv4_text (sym same.1) ∙ ap (λ (family : Family). bits_text family a.bits) (sym same.0)

text_v6 : (a : Addr) (ip : Ipv6Addr) → IsSameV6 a ip → hex_groups_text (ipv6_segments ip) ≡ addr_text a
unfolding bits_text
text_v6 a ip same = ap hex_groups_text (sym same.1) ∙ ap (λ (family : Family). bits_text family a.bits) (sym same.0)

pub returns-in-V4-clause-value : goal.returns-in-V4-clause-value
returns-in-V4-clause-value c =
    c.dotted_length.ensures.value ∙ ap (λ octets. length (ipv4_text octets)) c.octets.ensures
    ∙ ap length (text_v4 c.args.self c.in-V4.ip c.in-V4.ensures)

pub returns-in-V6-clause-value : goal.returns-in-V6-clause-value
returns-in-V6-clause-value c =
    c.colon_hex_length.ensures.value ∙ ap (λ groups. length (hex_groups_text groups)) c.segments.ensures
    ∙ ap length (text_v6 c.args.self c.in-V6.ip c.in-V6.ensures)
