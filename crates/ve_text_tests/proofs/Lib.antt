mod PageExamples
