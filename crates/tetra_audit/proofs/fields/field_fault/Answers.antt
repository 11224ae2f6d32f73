use Rattle.std.proofs.Common.{◌≡◌, ◌∙◌, ℕ, Bool, List, false, None, length, replicate, arith, ap}
use Rattle.std.proofs.Math.ListN.{length-replicate}
use Rattle.tetra_bits.specs.declared.reading.Mark.TheVariants.{Unchecked, NotYet}
use Rattle.tetra_channels.specs.Channels.{bsch, half, hu, full, data48, data24}
use Rattle.tetra_session.specs.Readers.{reader}
use Rattle.tetra_settings.specs.Readings.{sizes, message_bits}
use Rattle.tetra_settings.specs.declared.readings.FieldName.{FieldName}
use Rattle.tetra_settings.specs.declared.readings.FieldSizes.{FieldSizes}
use Rattle.tetra_settings.specs.declared.readings.FieldName.TheVariants.{Aach, Sync, Half, Hu, Full, D72, D48, D24, Whole, Single}
use Rattle.tetra_speech.specs.Frames.{whole_uncoded, whole_coded, half_uncoded, half_coded}
use Rattle.tetra_speech.specs.Reading.{whole_reading, half_reading}
use Rattle.tetra_audit.specs.Parts.{plain_why}
use Rattle.tetra_audit.proofs.FieldCases.{length_there, length_not_yet, why_coded, why_access, why_raw, why_not_yet, why_whole, why_single, values_there}
use Rattle.tetra_audit.proofs.Codes.{length-best_plain, whole_is_speech, half_is_speech}
use Rattle.tetra_audit.proofs.fields.field_fault.Goals as goal

pub returns-in-Aach : goal.returns-in-Aach
returns-in-Aach c = c.access_fault.ensures ∙ why_access c.args.code.now.0 c.args.field.now c.in-Some.soft c.args.bytes.now c.in-Aach.is c.in-Some.is

pub returns-in-Sync : goal.returns-in-Sync
returns-in-Sync c = c.coded_fault.ensures 11 ∙ why_coded c.args.code.now.0 c.args.field.now c.in-Some.soft bsch c.args.bytes.now (ap reader c.in-Sync.is) c.in-Some.is

pub returns-in-Half : goal.returns-in-Half
returns-in-Half c = c.coded_fault-in-Half.ensures 101 ∙ why_coded c.args.code.now.0 c.args.field.now c.in-Some.soft half c.args.bytes.now (ap reader c.in-Half.is) c.in-Some.is

pub returns-in-Hu : goal.returns-in-Hu
returns-in-Hu c = c.coded_fault-in-Hu.ensures 13 ∙ why_coded c.args.code.now.0 c.args.field.now c.in-Some.soft hu c.args.bytes.now (ap reader c.in-Hu.is) c.in-Some.is

pub returns-in-Full : goal.returns-in-Full
returns-in-Full c = c.coded_fault-in-Full.ensures 103 ∙ why_coded c.args.code.now.0 c.args.field.now c.in-Some.soft full c.args.bytes.now (ap reader c.in-Full.is) c.in-Some.is

pub returns-in-D48 : goal.returns-in-D48
returns-in-D48 c = c.coded_fault-in-D48.ensures 103 ∙ why_coded c.args.code.now.0 c.args.field.now c.in-Some.soft data48 c.args.bytes.now (ap reader c.in-D48.is) c.in-Some.is

pub returns-in-D24 : goal.returns-in-D24
returns-in-D24 c = c.coded_fault-in-D24.ensures 103 ∙ why_coded c.args.code.now.0 c.args.field.now c.in-Some.soft data24 c.args.bytes.now (ap reader c.in-D24.is) c.in-Some.is

pub returns-in-Whole : goal.returns-in-Whole
returns-in-Whole c =
    let size = values_there c.args.field.now c.in-Some.soft c.in-Some.is c.requires.field ∙ ap (λ (name : FieldName). (sizes name).values) c.in-Whole.is in
    c.speech_fault.ensures whole_uncoded whole_coded (whole_reading c.in-Some.soft) (whole_is_speech c.in-Some.soft size)
    ∙ why_whole c.args.code.now.0 c.args.field.now c.in-Some.soft c.args.bytes.now c.in-Whole.is c.in-Some.is

pub returns-in-Single : goal.returns-in-Single
returns-in-Single c =
    let size = values_there c.args.field.now c.in-Some.soft c.in-Some.is c.requires.field ∙ ap (λ (name : FieldName). (sizes name).values) c.in-Single.is in
    c.speech_fault-in-Single.ensures half_uncoded half_coded (half_reading c.in-Some.soft) (half_is_speech c.in-Some.soft size)
    ∙ why_single c.args.code.now.0 c.args.field.now c.in-Some.soft c.args.bytes.now c.in-Single.is c.in-Some.is

pub plain_fault-requires : goal.plain_fault-requires
plain_fault-requires c =
    let zeros = ap length c.zeros.ensures in
    let bits : c.sizes.result.bits ≡ message_bits c.args.field.now.name = ap (λ (s : FieldSizes). s.bits) c.sizes.ensures.sizes in
    omega (arith, c.requires.size, length_not_yet c.args.field.now c.in_default.is, zeros, length-replicate c.sizes.result.bits false, bits)

pub returns-in_default : goal.returns-in_default
returns-in_default c =
    let bits : c.sizes.result.bits ≡ message_bits c.args.field.now.name = ap (λ (s : FieldSizes). s.bits) c.sizes.ensures.sizes in
    c.plain_fault.ensures
    ∙ ap (λ (zeros : List Bool). plain_why (record { mark = NotYet; metric = 0; bits = zeros; potentials = None }) c.args.bytes.now) (c.zeros.ensures ∙ ap (λ (n : ℕ). replicate n false) bits)
    ∙ why_not_yet c.args.code.now.0 c.args.field.now c.args.bytes.now c.in_default.is

pub access_fault-requires-clause-size : goal.access_fault-requires-clause-size
access_fault-requires-clause-size c = c.requires.size ∙ length_there c.args.field.now Aach c.in-Some.soft c.in-Aach.is c.in-Some.is

pub coded_fault-requires-clause-size : goal.coded_fault-requires-clause-size
coded_fault-requires-clause-size c = c.requires.size ∙ length_there c.args.field.now Sync c.in-Some.soft c.in-Sync.is c.in-Some.is

pub coded_fault-requires-in-Half-clause-size : goal.coded_fault-requires-in-Half-clause-size
coded_fault-requires-in-Half-clause-size c = c.requires.size ∙ length_there c.args.field.now Half c.in-Some.soft c.in-Half.is c.in-Some.is

pub coded_fault-requires-in-Hu-clause-size : goal.coded_fault-requires-in-Hu-clause-size
coded_fault-requires-in-Hu-clause-size c = c.requires.size ∙ length_there c.args.field.now Hu c.in-Some.soft c.in-Hu.is c.in-Some.is

pub coded_fault-requires-in-Full-clause-size : goal.coded_fault-requires-in-Full-clause-size
coded_fault-requires-in-Full-clause-size c = c.requires.size ∙ length_there c.args.field.now Full c.in-Some.soft c.in-Full.is c.in-Some.is

pub coded_fault-requires-in-D48-clause-size : goal.coded_fault-requires-in-D48-clause-size
coded_fault-requires-in-D48-clause-size c = c.requires.size ∙ length_there c.args.field.now D48 c.in-Some.soft c.in-D48.is c.in-Some.is

pub coded_fault-requires-in-D24-clause-size : goal.coded_fault-requires-in-D24-clause-size
coded_fault-requires-in-D24-clause-size c = c.requires.size ∙ length_there c.args.field.now D24 c.in-Some.soft c.in-D24.is c.in-Some.is

pub speech_fault-requires-clause-size : goal.speech_fault-requires-clause-size
speech_fault-requires-clause-size c = c.requires.size ∙ length_there c.args.field.now Whole c.in-Some.soft c.in-Whole.is c.in-Some.is

pub speech_fault-requires-in-Single-clause-size : goal.speech_fault-requires-in-Single-clause-size
speech_fault-requires-in-Single-clause-size c = c.requires.size ∙ length_there c.args.field.now Single c.in-Some.soft c.in-Single.is c.in-Some.is

pub plain_fault-requires-in-D72 : goal.plain_fault-requires-in-D72
plain_fault-requires-in-D72 c =
    let size : length c.args.bytes.now ≡ 57 = c.requires.size ∙ length_there c.args.field.now D72 c.in-Some.soft c.in-D72.is c.in-Some.is in
    let values : length c.in-Some.soft ≡ 432 = values_there c.args.field.now c.in-Some.soft c.in-Some.is c.requires.field ∙ ap (λ (name : FieldName). (sizes name).values) c.in-D72.is in
    let bits : length c.read_plain.result ≡ 432 = ap length c.read_plain.ensures ∙ (length-best_plain c.in-Some.soft ∙ values) in
    omega arith

pub returns-in-D72 : goal.returns-in-D72
returns-in-D72 c =
    c.plain_fault-in-D72.ensures
    ∙ ap (λ (bits : List Bool). plain_why (record { mark = Unchecked; metric = 0; bits = bits; potentials = None }) c.args.bytes.now) c.read_plain.ensures
    ∙ why_raw c.args.code.now.0 c.args.field.now c.in-Some.soft c.args.bytes.now c.in-D72.is c.in-Some.is
