pub mod FieldWritingLemmas
pub mod ReadingOneScript
pub mod ScriptsMigrationLemmas
pub mod StepsCutLemmas
pub mod StepsLemmas
pub mod StepsWrittenLemmas
pub mod WritingLemmas
