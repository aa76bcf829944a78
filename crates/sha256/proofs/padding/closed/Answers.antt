use Rattle.std.proofs.Common.{ℕ, ◌-◌, ◌≤◌, ◌≡◌, refl, sym, ap, ◌∙◌, List, ◌++◌, arith, length, take, drop, set, rules, replicate, length-take-le}
use Rattle.words.specs.Words.{bytes}
use Rattle.sha256.proofs.Bytes.{bytes_are, closing_laid}
use Rattle.std.proofs.lemmas.Slice.{put_mid-paste}
use Rattle.sha256.proofs.padding.closed.Goals as goal

pub returns : goal.returns
returns c =
    let a = c.args in
    let k = c.copy_from_slice in
    let last : List ℕ = take a.rest a.tail in
    let area : List ℕ = set (k.new.self ++ drop a.rest (replicate 128 0)) a.rest 128 in
    let room : a.rest ≤ length a.tail = search rules in
    let field : c.to_be_bytes.result ≡ bytes 8 a.bits = c.to_be_bytes.ensures ∙ bytes_are 8 a.bits in
    let eight : length c.to_be_bytes.result ≡ 8 = ap length c.to_be_bytes.ensures in
    closing_laid last area _ c.to_be_bytes.result a.rest a.bits a.end
    (sym (length-take-le a.rest a.tail room))
    (search rules)
    (search rules)
    (ap (λ (l : List ℕ). set (l ++ drop a.rest (replicate 128 0)) a.rest 128) k.ensures.after)
    field
    (put_mid-paste (a.end - 8) (a.end - (a.end - 8)) area _ c.to_be_bytes.result (length c.to_be_bytes.result) c.copy_from_slice-2.ensures.after (omega arith) refl)
